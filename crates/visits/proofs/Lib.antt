-- `Visited` is about any update that reads of the visited links its own alone, `Joined` about overrelaxation from list to list, `OneSite` about one visit.
pub mod Visited
pub mod Joined
pub mod OneSite
