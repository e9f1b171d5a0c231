pub mod Made
pub mod Laws
pub mod Texts
pub mod Certificates
pub mod Drafts
pub mod Growing
pub mod Printed
