pub mod Words
pub mod Laid
pub mod Below
pub mod Laws
