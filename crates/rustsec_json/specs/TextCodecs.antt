-- The codecs of values that print a text and are parsed from it: their tree is that text.
use Rattle.std.specs.Prelude.{ℕ, List}
use Rattle.rustsec_json.specs.Codecs.{Codec, text_codec, word_codec}
use Rattle.rustsec_texts.specs.Addresses.{address_of}
use Rattle.rustsec_lock.specs.Cvss.{cvss_of, cvss_text}
use Rattle.rustsec_lock.specs.Platforms.{arch_of, arch_text, os_of, os_text}
use Rattle.rustsec_lock.specs.declared.cvss.Cvss.{Cvss}
use Rattle.rustsec_lock.specs.declared.platforms.Arch.{Arch}
use Rattle.rustsec_lock.specs.declared.platforms.OS.{OS}
use Rattle.rustsec_texts.specs.Categories.{category_name, category_of}
use Rattle.rustsec_texts.specs.Ids.{IdValue, id_of}
use Rattle.rustsec_texts.specs.Informational.{informational_name, informational_of}
use Rattle.rustsec_texts.specs.Paths.{path_of, path_text}
use Rattle.rustsec_texts.specs.declared.category.Category.{Category}
use Rattle.rustsec_texts.specs.declared.informational.Informational.{Informational}

abbrev pub id_codec : Codec IdValue
id_codec = text_codec (λ id. id.text) id_of

abbrev pub address_codec : Codec (List ℕ)
address_codec = text_codec (λ address. address) address_of

abbrev pub vector_codec : Codec Cvss
vector_codec = text_codec cvss_text cvss_of

abbrev pub arch_codec : Codec Arch
arch_codec = text_codec arch_text arch_of

abbrev pub os_codec : Codec OS
os_codec = text_codec os_text os_of

abbrev pub path_codec : Codec (List (List ℕ))
path_codec = text_codec path_text path_of

abbrev pub category_codec : Codec Category
category_codec = word_codec category_name category_of

abbrev pub informational_codec : Codec Informational
informational_codec = word_codec informational_name informational_of
