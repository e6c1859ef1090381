pub mod Checking
pub mod Hmac
pub mod Laws
pub mod Login
