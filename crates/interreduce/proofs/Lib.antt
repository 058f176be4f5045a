mod Leading
mod Choosing
mod Tails
mod Trails
mod Reducing
mod Gathering
mod Earlier
