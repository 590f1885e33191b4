-- Words that name no command, and options word by word.
pub mod OptionWords
pub mod Unknown
