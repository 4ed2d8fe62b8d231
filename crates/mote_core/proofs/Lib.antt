-- checked images are sound
pub mod SoundImages
-- the body cells of the methods of an image
pub mod Bodies
-- the memory when main's frame is pushed
pub mod Beginning
