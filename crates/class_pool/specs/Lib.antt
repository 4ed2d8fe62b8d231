pub mod Utf8
pub mod Pool
pub mod Members
pub mod PoolRefused
pub mod PoolReading
pub mod Descriptors
pub mod DescriptorReading
pub mod Laws
