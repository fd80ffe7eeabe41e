-- What is proved of the definitions, as sentences about them. Each is the contract of a public function of `src/laws/`; a reader
-- believes none of it, since the gate has proved it.
pub mod Causes
pub mod Plans
pub mod Walks
pub mod Paths
pub mod Siblings
pub mod LinksKept
pub mod PrepTold
pub mod Flight
pub mod HoldsLeft
pub mod Supplied
pub mod Weight
pub mod Paced
pub mod RunsEnd
pub mod RunsFed
pub mod Exclusive
pub mod NothingLeft
pub mod ChangesTold
pub mod PlansRead
pub mod CallCauses
pub mod EndCauses
pub mod Outcomes
pub mod PrepSteps
pub mod PrepBegins
pub mod Lifting
pub mod Twins
pub mod Shadows
