pub mod Printed
pub mod Sheet
pub mod Bursts
pub mod Instance
pub mod Numbers
