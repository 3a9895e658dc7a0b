mod Totals
mod Orders
mod Steps
mod Takers
mod Filling
mod InPlace
