pub mod DoubledTexts
pub mod NoFloats
pub mod OnceEach
