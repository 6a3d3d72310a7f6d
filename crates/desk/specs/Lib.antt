-- What the C border answers, and what it leaves in each buffer. To believe it, read Bytes, Answer, RunCall, PacketCall, ReadCall, CheckCall, EraseCall, LentCall and VansDesk; the rest are laws.
pub mod Bytes  -- words as bytes, lowest first
pub mod ByteLaws  -- bytes to words and back, both ways
pub mod Answer  -- the one number that a call answers
pub mod Done  -- what a call comes to, by the number that it answers
pub mod DoneLaws  -- a packet that is not accepted
pub mod RunCall  -- vans_run: the bare machine on byte buffers
pub mod RunCallLaws  -- for the proofs of the code of vans_run
pub mod PacketCall  -- what a call on a packet leaves in its one buffer
pub mod ReadCall  -- vans_read: the packet reader on byte buffers
pub mod ReadCallLaws  -- for the proofs of the code of vans_read
pub mod CheckCall  -- vans_check: the checker
pub mod EraseCall  -- vans_erase: the eraser on byte buffers
pub mod EraseCallLaws  -- for the proofs of the code of vans_erase
pub mod LentCall  -- what a call on a packet leaves in three buffers
pub mod VansDesk  -- vans_desk: the desk call on byte buffers
pub mod Work  -- what is done over the words of lent buffers, and what room for them must hold
pub mod Loans  -- what is left in the buffers of a loan
pub mod Works  -- the work that a value of the code's type says
pub mod WorkLaws  -- for the proofs of the code of these rooms
pub mod VansDeskLaws  -- for the proofs of its code behind the checker
pub mod Tasks  -- the calls on packets by their task
pub mod Calls  -- the call that a value of the code's type says
pub mod TaskLaws  -- for the proofs of the code of the tasks
pub mod Theorems  -- vans_desk is the desk call on its buffers' words
pub mod Unique  -- any two results that meet the promise are equal
