-- What tasks hold, and the searches over them: claimer, holder, the lowest other with a job or a claim, asked, idle; grey, closing.
use Rattle.std.specs.Prelude.{ℕ, suc, List, [], ◌∷◌, Bool, true, false, not, take, ltb, eqb, Option, Some, None}
use Rattle.table.specs.declared.Primary.{Primary}
use Rattle.table.specs.declared.Marks.{Marks}
use Rattle.table.specs.declared.Slot.{Slot}
use Rattle.table.specs.declared.Then.{Then}
use Rattle.table.specs.declared.Then.TheVariants.{ToWrite, ToStoreCopy, ToFillCopy, ToPut}
use Rattle.table.specs.declared.Place.{Place}
use Rattle.table.specs.declared.Place.TheVariants.{Idle, New, Asked, FillWrite, FillCopy, StoreWrite, Meet, StoreCopy, Take, Read, Put, Release, Looking, Placing}
use Rattle.table.specs.declared.Task.{Task}
use Rattle.table.specs.declared.Holding.{Holding}
use Rattle.table.specs.declared.Holding.TheVariants.{Rests, Asks, Free, Job, Claim, Both}
use Rattle.table.specs.declared.Sought.{Sought}
use Rattle.table.specs.declared.Sought.TheVariants.{Claimer, Holder, Worker, Blocker, Claiming, Asking, Busy}
use Rattle.machine.specs.Basics.{pick}
use Rattle.machine.specs.Words.{slot_at}

-- with a claim on p, or not, and what is to follow
abbrev pub look_holds : Then → Holding
look_holds (ToWrite v) = Free
look_holds ToStoreCopy = Free
look_holds ToFillCopy = Free
look_holds (ToPut n job) = Job job

abbrev pub place_holds : Primary → Then → Holding
place_holds p (ToWrite v) = Claim p
place_holds p ToStoreCopy = Claim p
place_holds p ToFillCopy = Claim p
place_holds p (ToPut n job) = Both p job

-- what a task at this place holds
unfoldable pub holding_of : Place → Holding
holding_of Idle = Rests
holding_of (New want) = Free
holding_of (Asked want) = Asks
holding_of (FillWrite v) = Free
holding_of (FillCopy c) = Free
holding_of (StoreWrite v) = Free
holding_of (Meet v) = Free
holding_of (StoreCopy c) = Free
holding_of (Take n) = Free
holding_of (Read n job) = Job job
holding_of (Put n job c) = Job job
holding_of (Release n job) = Job job
holding_of (Looking p then) = look_holds then
holding_of (Placing p then) = place_holds p then

abbrev pub idle_of : Holding → Bool
idle_of Rests = true
idle_of Asks = false
idle_of Free = false
idle_of (Job job) = false
idle_of (Claim p) = false
idle_of (Both p job) = false

abbrev pub asks_of : Holding → Bool
asks_of Rests = false
asks_of Asks = true
asks_of Free = false
asks_of (Job job) = false
asks_of (Claim p) = false
asks_of (Both p job) = false

abbrev pub claims_of : Holding → Bool
claims_of Rests = false
claims_of Asks = false
claims_of Free = false
claims_of (Job job) = false
claims_of (Claim p) = true
claims_of (Both p job) = true

-- a job or a claim
abbrev pub works_of : Holding → Bool
works_of Rests = false
works_of Asks = false
works_of Free = false
works_of (Job job) = true
works_of (Claim p) = true
works_of (Both p job) = true

-- neither idle nor asked
abbrev pub blocks_of : Holding → Bool
blocks_of Rests = false
blocks_of Asks = false
blocks_of Free = true
blocks_of (Job job) = true
blocks_of (Claim p) = true
blocks_of (Both p job) = true

abbrev pub claim_is : Primary → Holding → Bool
claim_is q Rests = false
claim_is q Asks = false
claim_is q Free = false
claim_is q (Job job) = false
claim_is q (Claim p) = eqb p.0 q.0
claim_is q (Both p job) = eqb p.0 q.0

abbrev pub slot_is : Primary → ℕ → Primary → ℕ → Bool
slot_is y k x i = pick (eqb x.0 y.0) (eqb i k) false

abbrev pub job_is : Primary → ℕ → Holding → Bool
job_is y k Rests = false
job_is y k Asks = false
job_is y k Free = false
job_is y k (Job job) = slot_is y k job.object job.index
job_is y k (Claim p) = false
job_is y k (Both p job) = slot_is y k job.object job.index

-- task i, which holds h, is sought
unfoldable pub sought_of : Sought → ℕ → Holding → Bool
sought_of (Claimer q) i h = claim_is q h
sought_of (Holder job) i h = job_is job.object job.index h
sought_of (Worker me) i h = pick (eqb i me) false (works_of h)
sought_of (Blocker me) i h = pick (eqb i me) false (blocks_of h)
sought_of Claiming i h = claims_of h
sought_of Asking i h = asks_of h
sought_of Busy i h = not (idle_of h)

-- the lowest-numbered task of those from number i on of which the test holds
unfoldable pub lowest_of : (ℕ → Task → Bool) → List Task → ℕ → Option ℕ
lowest_of test [] i = None
lowest_of test (e ∷ es) i = pick (test i e) (Some i) (lowest_of test es (suc i))

abbrev pub sought_task : Sought → ℕ → Task → Bool
sought_task w i e = sought_of w i (holding_of e.place)

-- among the P tasks
unfoldable pub seek_of : List Task → ℕ → Sought → Option ℕ
seek_of tasks p w = lowest_of (sought_task w) (take p tasks) 0

abbrev pub is_found : Option ℕ → Bool
is_found (Some i) = true
is_found None = false

abbrev pub some : List Task → ℕ → Sought → Bool
some tasks p w = is_found (seek_of tasks p w)

-- another task's unfinished Store is on this object and slot
abbrev pub stores_at : Primary → ℕ → Option Slot → Bool
stores_at y k None = false
stores_at y k (Some at) = slot_is y k at.object at.index

abbrev pub store_there : ℕ → Primary → ℕ → ℕ → Task → Bool
store_there me y k i e = pick (eqb i me) false (stores_at y k e.storing)

unfoldable pub slot_taken : List Task → ℕ → ℕ → Primary → ℕ → Bool
slot_taken tasks p me y k = is_found (lowest_of (store_there me y k) (take p tasks) 0)

-- grey: on the stack, in hand, or claimed and not yet placed
unfoldable pub grey_of : Marks → ℕ → List Task → ℕ → Bool
grey_of m end tasks p =
    pick (ltb m.top end) true
    (pick (ltb 0 m.j) true
    (some tasks p Claiming))

abbrev pub all_idle : List Task → ℕ → Bool
all_idle tasks p = not (some tasks p Busy)

-- closing: the collector on, nothing grey, but a task is busy
unfoldable pub closing_of : Marks → ℕ → List Task → ℕ → Bool
closing_of m end tasks p = pick (grey_of m end tasks p) false (some tasks p Busy)

-- held: a flip is asked and not yet made, or the heap is closing
unfoldable pub held_of : Bool → Marks → ℕ → List Task → ℕ → Bool
held_of on m end tasks p = pick on (closing_of m end tasks p) (some tasks p Asking)
