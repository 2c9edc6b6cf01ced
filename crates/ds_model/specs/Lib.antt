-- The plain world, in the order in which it is read.

-- small words
pub mod Lists
pub mod Keys
pub mod Stepping
-- RULES: what may flow where, and the first rule that fails
pub mod FirstRule
pub mod ProcessRules
pub mod Mapping
pub mod Scheme
pub mod ExporterRules
-- OBJECTS: what processes, workers and connections share
pub mod Mailbox
pub mod Lane
pub mod Inlet
pub mod Desk
-- WHO IS THERE: what setup fixes, and what changes
pub mod Plan
pub mod World
pub mod Setup
-- ACTORS: what each asks, and what it becomes
pub mod ProcessStep
pub mod WorkerStep
pub mod ConnectionStep
-- THE STEP: events, views, the canonical schedule
pub mod Step
pub mod Views
pub mod Schedule
-- WHAT IS PROMISED
pub mod Lawful
-- WHAT IS PRINTED
pub mod Text
pub mod Print
-- THE SAME, SEEN FROM THE OBJECTS
pub mod Access
pub mod Replies
-- EXAMPLES
pub mod Examples
