pub mod Film
