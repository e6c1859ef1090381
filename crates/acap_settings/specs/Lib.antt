-- What a settings file says.
pub mod Settings
pub mod Keys
pub mod Members
