-- numbers among others
pub mod AmongNumbers
-- what stands above a class, and which classes have a file
pub mod SetClasses
-- each class has a number, behind those above it
pub mod ClassOrders
