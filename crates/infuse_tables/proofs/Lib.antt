-- items with their numbers
pub mod NumberedItems
