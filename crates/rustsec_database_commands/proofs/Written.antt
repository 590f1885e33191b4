-- What a command has written, by what its parts have.
use Rattle.std.proofs.Common.{◌≡◌, ℕ, Err, List, Ok, Option, None, Result, Some, false, subst, sym}
use Rattle.std.specs.Io.KnownBytes.{Appends, Keeps}
use Rattle.std.specs.Prelude.{IfOk, IsOkAnd}
use Rattle.std.specs.declared.alloc.AllocError.{AllocError}
use Rattle.rustsec_files.specs.Allowed.{Allowed}
use Rattle.rustsec_commands.specs.Output.{Output}
use Rattle.rustsec_program.specs.Commands as audits
use Rattle.rustsec_program.specs.Words as audit_words
use Rattle.rustsec_program.specs.Writing as audit_writing
use Rattle.rustsec_database_commands.specs.Commands.{Carries, IsBrokenOff, IsOutputOf, IsOwnOutput, reads_input_of, words_read_input}
use Rattle.rustsec_database_commands.specs.Words.{Command, command_of}

-- words that name no command of this crate
pub carried-before : (allowed : Allowed) (words : List (List ℕ)) (input : Option (List ℕ)) (status : ℕ) (before after : Option (List ℕ))
    → command_of words ≡ None → audits.Carries allowed words input status before after → Carries allowed words input status before after
carried-before allowed words input status before after none c = record {
  output = c.output;
  is_output = subst (λ k. IsOutputOf allowed words k input c.output) (sym none) c.is_output;
  status_is = c.status_is;
  text = c.text;
}

pub broken-off-before : (allowed : Allowed) (words : List (List ℕ)) (input before after : Option (List ℕ)) → command_of words ≡ None
    → audit_writing.IsBrokenOff allowed (audit_words.command_of words) input before after
    → IsBrokenOff allowed words (command_of words) input before after
broken-off-before allowed words input before after none h = subst (λ k. IsBrokenOff allowed words k input before after) (sym none) h

pub others-unread : (words : List (List ℕ)) → command_of words ≡ None → words_read_input words ≡ false → audits.words_read_input words ≡ false
others-unread words none unread = subst (λ k. reads_input_of words k ≡ false) none unread

-- an output that was made and written
pub finished-carried : (allowed : Allowed) (words : List (List ℕ)) (c : Command) (input : Option (List ℕ)) (made : Result Output AllocError) (status : ℕ)
    (before after : Option (List ℕ)) → command_of words ≡ Some c → IfOk made (IsOwnOutput allowed c)
    → IsOkAnd made (λ o. (status ≡ o.status) × Appends before after o.text) → Carries allowed words input status before after
finished-carried allowed words c input (Ok o) status before after named is h = record {
  output = o;
  is_output = subst (λ k. IsOutputOf allowed words k input o) (sym named) is;
  status_is = h.0;
  text = h.1;
}
finished-carried allowed words c input (Err e) status before after named is h = absurd h

-- and a command that wrote nothing
pub nothing-written : (allowed : Allowed) (words : List (List ℕ)) (c : Command) (input before after : Option (List ℕ)) → command_of words ≡ Some c
    → Keeps before after → IsBrokenOff allowed words (command_of words) input before after
nothing-written allowed words c input before after named h = subst (λ k. IsBrokenOff allowed words k input before after) (sym named) h
