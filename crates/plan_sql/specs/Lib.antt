pub mod Statement
pub mod Laws
