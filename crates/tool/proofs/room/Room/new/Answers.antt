-- `Room::new` has as much room as it says: each list is as long as it was made. Assumes nothing.
use Rattle.tool.proofs.room.Room.new.Goals as goal

pub returns-clause-words : goal.returns-clause-words
returns-clause-words c = c.in_ok-vec.ensures.len

pub returns-clause-nodes : goal.returns-clause-nodes
returns-clause-nodes c = c.in_ok-vec-2.ensures.len

pub returns-clause-names : goal.returns-clause-names
returns-clause-names c = c.in_ok-vec-3.ensures.len

pub returns-clause-letters : goal.returns-clause-letters
returns-clause-letters c = c.in_ok-vec-4.ensures.len

pub returns-clause-notes : goal.returns-clause-notes
returns-clause-notes c = c.in_ok-vec-5.ensures.len

pub returns-clause-visits : goal.returns-clause-visits
returns-clause-visits c = c.in_ok-vec-6.ensures.len

pub returns-clause-key : goal.returns-clause-key
returns-clause-key c = c.in_ok-vec-7.ensures.len
