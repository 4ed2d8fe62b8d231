-- scans for the first refusal
mod FirstRefusals
-- refusals of one body
mod BodyRefusals
-- lists that grow
mod GrownLists
-- bodies by their classes, each of which has a number
mod NumberedBodies
-- methods class by class
mod OrderedMethods
-- numbers within their limits fit the tables of an image
mod NumberedTypes
-- what a linked set gives for its typed bodies
mod LinkedBodies
