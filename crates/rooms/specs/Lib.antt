-- What the contracts cite of rooms beside `rules`: the tests of the rooms, the bound that numbers are cut to, and the area of links. Assumes nothing.
pub mod Rooms
pub mod Cap
pub mod Links
