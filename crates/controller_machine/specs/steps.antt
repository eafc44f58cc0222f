pub mod Place
pub mod Left
