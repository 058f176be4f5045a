mod GraphRings
mod FirstTerms
mod Listing
mod SecondTerms
mod AlikeOrders
mod GraphBases
