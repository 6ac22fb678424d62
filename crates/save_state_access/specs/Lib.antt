pub mod Table
pub mod Width
pub mod IoInfo
pub mod Reading
pub mod Writing
