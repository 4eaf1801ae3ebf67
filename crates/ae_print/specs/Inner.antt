-- What inner functions promise to one another: nobody has to believe these.
pub mod Short
pub mod SomePut
pub mod EventsRead
