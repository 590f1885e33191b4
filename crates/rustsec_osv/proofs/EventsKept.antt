-- Printing a document with valid versions and reading it back preserves its ranges and events.
use Rattle.std.proofs.Common.{◌≡◌, ◌∙◌, List, [], ◌∷◌, ◌++◌, All, map, Option, Some, None, option_to_list, refl, ap, sym}
use Rattle.std.specs.List.{flat_map}
use Rattle.std.proofs.lemmas.List.Elements.{All-head, All-tail}
use Rattle.std.proofs.lemmas.Option.{same_Some}
use Rattle.rustsec_json.specs.Codecs.{IfThere, members_of}
use Rattle.rustsec_json.specs.Fields.{every}
use Rattle.rustsec_json.proofs.CodecsRoundTrip.{list_of-items, object-held, optional-again, parts-read}
use Rattle.rustsec_values.specs.Reading.{before, read_all, value_or}
use Rattle.rustsec_osv.specs.DocumentCodec.{AreEventsValid, affected_codec, affected_object, document_object, document_tree, read_document}
use Rattle.rustsec_osv.specs.DocumentEvents.{Event, JsonRange}
use Rattle.rustsec_osv.specs.Documents.{Document, ranges_of}
use Rattle.rustsec_osv.specs.EventCodec.{IsRangeAgain}
use Rattle.rustsec_osv.specs.Export.{document_events, events_of_member}
use Rattle.rustsec_osv.specs.declared.affected.OsvAffected.{OsvAffected}
use Rattle.rustsec_osv.proofs.DocumentsRoundTrip.{ranges-again}

-- the ranges of a member that was read
ranges-kept : (a b : OsvAffected) → IfThere (All IsRangeAgain) a.ranges → affected_codec.read (affected_codec.tree a) ≡ Some b → b.ranges ≡ a.ranges
ranges-kept a b h e =
    let part = (parts-read affected_object.fields affected_object.make (members_of affected_object a) b e).2.2.2 in
    sym (ap (λ (x : OsvAffected). x.ranges) part.2.2) ∙ same_Some part.0 a.ranges (sym part.1 ∙ optional-again ranges-again a.ranges h)

-- the results for a list's first value and for the others
split : {A : Type 0} (o : Option A) (rest : Option (List A)) (ys : List A) → before o rest ≡ Some ys
    → (y : A) × (zs : List A) × (o ≡ Some y) × (rest ≡ Some zs) × (ys ≡ y ∷ zs)
split None rest ys e = cc e
split (Some y) None ys e = cc e
split (Some y) (Some zs) ys e = (y, zs, refl, refl, sym (same_Some _ _ e))

-- a member whose events have valid versions
abbrev IsValidMember : OsvAffected → Type 0
IsValidMember a = IfThere (All IsRangeAgain) a.ranges

-- of all members, in order
all-kept : (xs ys : List OsvAffected) → All IsValidMember xs → read_all affected_codec.read (map affected_codec.tree xs) ≡ Some ys
    → map (λ (a : OsvAffected). a.ranges) ys ≡ map (λ (a : OsvAffected). a.ranges) xs
unfolding read_all
all-kept [] ys h e = rw (sym (same_Some _ _ e)) refl
all-kept (x ∷ xs) ys h e =
    let p = split _ _ ys e in
    rw p.4 (rw (ranges-kept x p.0 (All-head IsValidMember x xs h) p.2, all-kept xs p.1 (All-tail IsValidMember x xs h) p.3) refl)

-- any document that is read has the same ranges, in order
pub ranges-same : (d read : Document) → AreEventsValid d → read_document (document_tree d) ≡ Some read → ranges_of read ≡ ranges_of d
ranges-same d read h e =
    let part = (parts-read document_object.fields document_object.make (members_of document_object d) read e).2.2.2.2.2.2.2.2.2.2.2 in
    let held = (object-held document_object d refl).1.1.1.1.1.1.1.1.1.1.1 in
    let listed = ap (value_or [] (every affected_codec.read)) (sym held.0) ∙ part.1 ∙ ap (λ (x : Document). Some x.affected) part.2.2 in
    all-kept d.affected read.affected h (rw (list_of-items (map affected_codec.tree d.affected)) at listed)

-- the events of a document are those of its ranges
events_of_ranges : Option (List JsonRange) → List Event
events_of_ranges ranges = flat_map (λ rs. flat_map (λ (r : JsonRange). r.events) rs) (option_to_list ranges)

events-by-ranges : (xs : List OsvAffected) → flat_map events_of_member xs ≡ flat_map events_of_ranges (map (λ (a : OsvAffected). a.ranges) xs)
unfolding events_of_ranges
events-by-ranges [] = refl
events-by-ranges (x ∷ xs) = ap (λ es. events_of_member x ++ es) (events-by-ranges xs)

-- and so are its events
pub events-same : (d read : Document) → AreEventsValid d → read_document (document_tree d) ≡ Some read → document_events read ≡ document_events d
events-same d read h e =
    events-by-ranges read.affected ∙ ap (λ rs. flat_map events_of_ranges rs) (ranges-same d read h e) ∙ sym (events-by-ranges d.affected)
