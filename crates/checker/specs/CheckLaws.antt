-- Laws of the checker on packets: one for each way through its code; and for callers, what it answers and leaves in a room that is large enough.
use Rattle.std.specs.Prelude.{ℕ, ◌+◌, ◌≤◌, refl, Bool, false, Err, take, replicate}
use Rattle.std.proofs.Common.{arith, sym, ◌∙◌, length-take-le}
use Rattle.std.proofs.Math.Path.{◌≡◌, ap}
use mathlib.Core.List.{List, [], ◌∷◌}
use Rattle.std.proofs.Math.ListN.{length}
use Rattle.choice.specs.Pick.{is_equal, not_equal, if_less, if_equal}
use Rattle.refusals.specs.declared.Fault.{Fault}
use Rattle.refusals.specs.Refusals.{number_of, Verdict, verdict_of}
use Rattle.refusals.specs.RefusalLaws.{some_number}
use Rattle.levels.specs.Sets.{below_of, join_of}
use Rattle.listing.specs.declared.reading.ReadError.{ReadError}
use Rattle.listing.specs.declared.reading.ReadError.TheVariants as error
use Rattle.listing.specs.Taken.{Taken, taken_in}
use Rattle.listing.specs.Taken as taken
use Rattle.listing.specs.declared.items.Item.{Item}
use Rattle.listing.specs.Limits.{BYTES, LABELS, ITEMS}
use Rattle.listing.specs.Listing.{Field, LabelContext, Listing}
use Rattle.listing.specs.Packet.{Reading, reading_of, packet_of, numbers_in}
use Rattle.listing.specs.Parts.{number_at, count_at, item_at, behind_item, items_place, shapes_in, labels_in, items_in, listing_in}
use Rattle.listing.specs.PartLaws.{parts_length}
use Rattle.listing.specs.PlaceLaws.{count_held}
use Rattle.listing.specs.TakenLaws.{read_taken, read_count, read_place, read_numbers}
use Rattle.rules.specs.Context.{Context, context_of, no_registers}
use Rattle.rules.specs.Rules.{after_of}
use Rattle.checker.specs.declared.blocks.Block.{Block}
use Rattle.checker.specs.declared.blocks.Block.TheVariants.{Start}
use Rattle.checker.specs.Checked.{Checked, checked_in}
use Rattle.checker.specs.Checked as checked
use Rattle.checker.specs.Walk.{accepted, block_after, placed_after, or_else, walk_from, walk_of}
use Rattle.checker.specs.Check.{verdict_in, judged_of, checked_by, Checking, checking_of, check_in, check_of}

-- a packet that is taken is within its limit, and has room
module _ (packet room room' : List ℕ) (t : Taken) (e : reading_of t room' ≡ packet_of packet room) where
  fault_no_listing : (n k place : ℕ) {A : Type 0} → t ≡ taken.Listing n → t ≡ taken.Fault k place → A
  fault_no_listing n k place p q = let z : ◌≡◌ {A = ℕ} 0 1 = cc in absurd (omega arith)

  no_room_no_listing : (n : ℕ) {A : Type 0} → t ≡ taken.Listing n → t ≡ taken.NoRoom → A
  no_room_no_listing n p q = let z : ◌≡◌ {A = ℕ} 0 1 = cc in absurd (omega arith)

  taken_bounds : (n : ℕ) → t ≡ taken.Listing n → (length packet ≤ BYTES) × (length packet ≤ length room)
  unfolding packet_of
  taken_bounds n p =
      if_less (λ (x : Reading). t ≡ x.taken → (length packet ≤ BYTES) × (length packet ≤ length room)) BYTES (length packet) _ _
      (λ h q. fault_no_listing n _ _ p q)
      (λ h. if_less (λ (x : Reading). t ≡ x.taken → (length packet ≤ BYTES) × (length packet ≤ length room)) (length room) (length packet) _ _
      (λ k q. no_room_no_listing n p q)
      (λ k q. (h, k)))
      (ap (λ (x : Reading). x.taken) e)

  taken_count : (n : ℕ) → t ≡ taken.Listing n → n ≤ length packet
  taken_count n p = read_count packet room room' t e (taken_bounds n p).0 (taken_bounds n p).1 n p

  -- the way of each arm
  as_taken : (r : Checked) (x : Taken) → t ≡ x → r ≡ checked_by x (verdict_in packet) → checking_of r room' ≡ check_in packet room
  unfolding check_in
  as_taken r x p q =
      λ i.
      checking_of ((q ∙ ap (λ (y : Taken). checked_by y (verdict_in packet)) (sym p ∙ ap (λ (y : Reading). y.taken) e)) i)
      (ap (λ (y : Reading). y.numbers) e i)

  as_listing : (r : Checked) (n : ℕ) (v : Verdict) → t ≡ taken.Listing n → v ≡ walk_of below_of join_of (listing_in (take n room')) → r ≡ judged_of n v → checking_of r room' ≡ check_in packet room
  unfolding checked_by
  as_listing r n v p q s =
      as_taken r (taken.Listing n) p
      (s
      ∙ ap (judged_of n)
      (q ∙ ap (λ (ns : List ℕ). walk_of below_of join_of (listing_in ns)) (read_numbers packet room room' t e (taken_bounds n p).0 (taken_bounds n p).1 n p)))

  pub accepts : (n : ℕ) → t ≡ taken.Listing n → verdict_of 0 0 ≡ walk_of below_of join_of (listing_in (take n room')) → checking_of (checked.Accepted n) room' ≡ check_in packet room
  unfolding judged_of
  accepts n p q = as_listing (checked.Accepted n) n (verdict_of 0 0) p q (is_equal 0 0 _ _ _ refl refl)

  pub refuses : (n : ℕ) (f : Fault) → t ≡ taken.Listing n → verdict_of (number_of f.refusal) f.place ≡ walk_of below_of join_of (listing_in (take n room'))
      → checking_of (checked.Refused (number_of f.refusal) f.place) room' ≡ check_in packet room
  unfolding judged_of
  refuses n f p q =
      as_listing (checked.Refused (number_of f.refusal) f.place) n (verdict_of (number_of f.refusal) f.place) p q
      (not_equal (number_of f.refusal) 0 _ _ _ (λ z. some_number f.refusal (sym z)) refl)

  pub unread : (x : ReadError) → t ≡ taken_in (Err x) → checking_of (checked_in (Err x)) room' ≡ check_in packet room
  unfolding checked_by
  unread (error.Refused f) p = as_taken (checked.Refused (number_of f.refusal) f.place) (taken.Fault (number_of f.refusal) f.place) p refl
  unread error.NoRoom p = as_taken checked.NoRoom taken.NoRoom p refl

-- the numbers of a listing that is taken stand in front of the room
module _ (packet room room' : List ℕ) (n : ℕ) (e : reading_of (taken.Listing n) room' ≡ packet_of packet room) (s : length room' ≡ length room) where
  pub front_fits : n ≤ length room'
  front_fits = omega (arith, taken_count packet room room' (taken.Listing n) e n refl, taken_bounds packet room room' (taken.Listing n) e n refl)

  pub front_within : length (take n room') ≤ BYTES
  front_within =
      omega (
        arith,
        taken_count packet room room' (taken.Listing n) e n refl,
        taken_bounds packet room room' (taken.Listing n) e n refl,
        length-take-le n room' front_fits,
      )

  pub front_is : n ≡ length (take n room')
  front_is = sym (length-take-le n room' front_fits)

pub ruleset fronts = (front_fits, front_within, front_is)

-- a refusal of the walk lies within the list
else_within : (k at end : ℕ) (rest : Verdict) → at ≤ end → rest.place ≤ end → (or_else k at rest).place ≤ end
unfolding or_else
else_within k at end rest h p = if_equal (λ (v : Verdict). v.place ≤ end) k 0 rest (verdict_of k at) (λ e. p) (λ e. h)

walk_within : (shapes : List (List Field)) (labels : List LabelContext) (items : List Item) (at : ℕ) (b : Block) (Γ : Context) (placed : List Bool)
    → (walk_from below_of join_of shapes labels items at b Γ placed).place ≤ at + length items
unfolding walk_from
walk_within shapes labels [] at b Γ placed = else_within _ at (at + 0) accepted (omega arith) (omega arith)
walk_within shapes labels (i ∷ items) at b Γ placed =
    else_within _ at (at + length (i ∷ items)) _ (omega arith)
    (let further = walk_within shapes labels items (at + 1) (block_after i) (after_of below_of join_of shapes labels Γ i) (placed_after placed i) in omega (arith, further))

verdict_within : (packet : List ℕ) → (verdict_in packet).place ≤ ITEMS
unfolding walk_of items_in
verdict_within packet =
    let ns = numbers_in packet in
    omega (
      arith,
      walk_within (shapes_in ns) (labels_in ns) (items_in ns) 0 Start (context_of 0 [] no_registers) (replicate LABELS false),
      parts_length (item_at ns) (behind_item ns) (items_place ns + 1) (count_at ITEMS ns (items_place ns)),
      count_held ITEMS (number_at ns (items_place ns)) (count_at ITEMS ns (items_place ns)) refl,
    )

-- what is accepted is a listing, and its verdict is 0
pub accepted_taken : (v : Verdict) (n : ℕ) (t : Taken) → checked.Accepted n ≡ checked_by t v → (t ≡ taken.Listing n) × (v.number ≡ 0)
unfolding checked_by judged_of
accepted_taken v n (taken.Listing m) p =
    if_equal (λ (c : Checked). checked.Accepted n ≡ c → (taken.Listing m ≡ taken.Listing n) × (v.number ≡ 0)) v.number 0 _ _
    (λ z q. (cc, z))
    (λ z q. let x : ◌≡◌ {A = ℕ} 0 1 = cc in absurd (omega arith))
    p
accepted_taken v n (taken.Fault m place) p = let x : ◌≡◌ {A = ℕ} 0 1 = cc in absurd (omega arith)
accepted_taken v n taken.NoRoom p = let x : ◌≡◌ {A = ℕ} 0 1 = cc in absurd (omega arith)

-- a verdict of number 0 is the accepting one
else_zero : (k at : ℕ) (rest : Verdict) → (rest.number ≡ 0 → rest ≡ accepted) → (or_else k at rest).number ≡ 0 → or_else k at rest ≡ accepted
unfolding or_else
else_zero k at rest h = if_equal (λ (v : Verdict). v.number ≡ 0 → v ≡ accepted) k 0 rest (verdict_of k at) (λ z. h) (λ d z. absurd (d z))

walk_zero : (shapes : List (List Field)) (labels : List LabelContext) (items : List Item) (at : ℕ) (b : Block) (Γ : Context) (placed : List Bool)
    → (walk_from below_of join_of shapes labels items at b Γ placed).number ≡ 0 → walk_from below_of join_of shapes labels items at b Γ placed ≡ accepted
unfolding walk_from
walk_zero shapes labels [] at b Γ placed = else_zero _ at accepted (λ z. refl)
walk_zero shapes labels (i ∷ items) at b Γ placed =
    else_zero _ at _ (walk_zero shapes labels items (at + 1) (block_after i) (after_of below_of join_of shapes labels Γ i) (placed_after placed i))

pub verdict_zero : (l : Listing) → (walk_of below_of join_of l).number ≡ 0 → walk_of below_of join_of l ≡ accepted
unfolding walk_of
verdict_zero l = walk_zero l.shapes l.labels l.items 0 Start (context_of 0 [] no_registers) (replicate LABELS false)

-- for a caller: a packet that is checked in room enough for it
module _ (packet room room' : List ℕ) (r : Checked) (e : checking_of r room' ≡ check_in packet room) (h : length packet ≤ BYTES) (k : length packet ≤ length room) where
  abbrev got : Taken
  got = (packet_of packet room).taken

  reading : reading_of got room' ≡ packet_of packet room
  unfolding check_in
  reading = ap (λ (c : Checking). reading_of got c.numbers) e

  by_taken_lem : r ≡ checked_by got (verdict_in packet)
  unfolding check_in
  by_taken_lem = ap (λ (c : Checking). c.answer) e

  pub check_answer : r ≡ check_of packet
  unfolding check_of
  check_answer = by_taken_lem ∙ ap (λ (t : Taken). checked_by t (verdict_in packet)) (read_taken packet room room' got reading h k)

  -- of what is accepted the numbers stand in front
  module _ (n : ℕ) (p : r ≡ checked.Accepted n) where
    is_listing : got ≡ taken.Listing n
    is_listing = (accepted_taken (verdict_in packet) n got (sym p ∙ by_taken_lem)).0

    pub check_count : n ≤ length packet
    check_count = read_count packet room room' got reading h k n is_listing

    pub check_numbers : take n room' ≡ numbers_in packet
    check_numbers = read_numbers packet room room' got reading h k n is_listing

  -- a refusal's place is within the packet or within the list
  refused_place : (number place : ℕ) (t : Taken) → ((i j : ℕ) → t ≡ taken.Fault i j → j ≤ length packet) → checked.Refused number place ≡ checked_by t (verdict_in packet) → place ≤ BYTES
  unfolding checked_by judged_of
  refused_place number place (taken.Listing m) f p =
      if_equal (λ (c : Checked). checked.Refused number place ≡ c → place ≤ BYTES) (verdict_in packet).number 0 _ _
      (λ z q. let x : ◌≡◌ {A = ℕ} 0 1 = cc in absurd (omega arith))
      (λ z q. let same : place ≡ (verdict_in packet).place = cc in omega (arith, same, verdict_within packet))
      p
  refused_place number place (taken.Fault i j) f p = let same : place ≡ j = cc in omega (arith, same, f i j refl)
  refused_place number place taken.NoRoom f p = let x : ◌≡◌ {A = ℕ} 0 1 = cc in absurd (omega arith)

  pub check_place : (number place : ℕ) → r ≡ checked.Refused number place → place ≤ BYTES
  check_place number place p = refused_place number place got (read_place packet room room' got reading h k) (sym p ∙ by_taken_lem)
