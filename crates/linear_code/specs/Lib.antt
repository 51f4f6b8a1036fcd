pub mod FirstWithin
