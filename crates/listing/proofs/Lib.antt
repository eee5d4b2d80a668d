pub mod Bounds
pub mod Shapes
pub mod Joining
pub mod Evaluating
pub mod Placing
pub mod Answering
pub mod Serving
