-- The outputs of commands, that there is one only, and their trees without floats.
pub mod NoFloatsOsv
pub mod OneOutput
pub mod ParsedOutputs
pub mod Refused
