-- The way down from a row along first rows below, as the links lead; and what the links say of the rows under one parent. Assumes nothing.
use Rattle.std.specs.Prelude.{◌≡◌, refl, not, List, ℕ, zero, suc, ◌+◌, ◌-◌, ◌≤◌, ◌<◌, T, length, get_or}
use Rattle.std.proofs.Common.{ap, ◌∙◌, arith}
use Rattle.std.proofs.Math.Option.{Option, none}
use Rattle.std.proofs.Math.Decide.{ℕ_discrete}
use Rattle.std.proofs.Math.Nat.{mul-le-mul_left}
use Rattle.rules.specs.declared.Kind.{Kind}
use Rattle.rules.specs.declared.Kind.TheVariants.{Driver, Point, Sink}
use Rattle.rules.specs.declared.Pin.{Pin}
use Rattle.rules.specs.declared.Row.{Row}
use Rattle.rules.specs.Entries.{Repeater}
use Rattle.rules.specs.Refusals.{is_sink}
use Rattle.rules.specs.Net.{Tree, beside}
use Rattle.rules.specs.Pairs.{sites_on}
use Rattle.rooms.specs.Links.{next_at}
use Rattle.laws.specs.Accepted.{Accepted}
use Rattle.laws.specs.Rows.{later-at}
use Rattle.laws.specs.Sums.{over}
use Rattle.laws.specs.Room.{HasRoom, room-under}
use Rattle.laws.specs.Walk.{no_row, sites_before, under, seen_at, under-end, under-passed}
use Rattle.rows.specs.Alike.{Alike, alike-none, beside_none}
use Rattle.rows.specs.Backward.{Backward, Chain, end, next, hung_at}
use Rattle.walks.specs.Links.{from, from-child, from_some, sites-step, room-alone, first-inside}

-- the first row below a row comes after it, or is the number past the last row
abbrev pub Rising : List ℕ → (n : ℕ) → Type 0
Rising links n = (p : ℕ) → p < n → (p < get_or links p 0) × (get_or links p 0 ≤ n)

-- r is on the way from a row down along first rows below
pub data Spine (links : List ℕ) (n row : ℕ) : ℕ → Type 0 where
  here : {r : ℕ} → r ≡ row → Spine links n row r
  down : {r : ℕ} (p : ℕ) → p < n → Spine links n row p → get_or links p 0 ≡ r → r < n → Spine links n row r

-- each row on the way but the start is the first below another on it
pub record Above (links : List ℕ) (n row r p : ℕ) : Type 0 where
  pub inside : p < n
  pub way : Spine links n row p
  pub first : get_or links p 0 ≡ r

pub spine-above : {links : List ℕ} {n row r : ℕ} → Spine links n row r → ¬ (r ≡ row) → (p : ℕ) × Above links n row r p
spine-above (here e) f = absurd (f e)
spine-above (down p h s e g) f = (p, record { inside = h; way = s; first = e })

pub spine-after : {links : List ℕ} {n row r : ℕ} → Rising links n → Spine links n row r → row ≤ r
spine-after rising (here e) = omega arith
spine-after rising (down p h s e g) = omega (arith, spine-after rising s, rising p h)

-- row c is directly below row p
pub record Below (rows : List Row) (p c : ℕ) : Type 0 where
  pub after : p < c
  pub inside : c < length rows
  pub parent : (get_or rows c no_row).parent ≡ p

-- ---- a chain of rows below p
-- its first row, and the rest
pub record Linked (rows : List Row) (links : List ℕ) (p c left : ℕ) (u : Option Tree) : Type 0 where
  pub below : Below rows p c
  pub less : ℕ
  pub less_is : left ≡ suc less
  pub rest : Option Tree
  pub rest_is : u ≡ beside (hung_at rows c) rest
  pub chain : Chain rows links p (length rows) (get_or links (next_at + c) 0) less rest

pub chain_next : {rows : List Row} {links : List ℕ} {p c left : ℕ} {u : Option Tree} → Chain rows links p (length rows) c left u → c < length rows → Linked rows links p c left u
chain_next (end e z f) g = absurd (omega arith)
chain_next (next less v a b e z f ch) g = record { below = record { after = a; inside = b; parent = e }; less = less; less_is = z; rest = v; rest_is = f; chain = ch }

pub chain-upto : {rows : List Row} {links : List ℕ} {p c left : ℕ} {u : Option Tree} → Chain rows links p (length rows) c left u → c ≤ length rows
chain-upto (end e z f) = omega arith
chain-upto (next less v a b e z f ch) = omega arith

-- past the last row there is none
pub chain-none : {rows : List Row} {links : List ℕ} {p left : ℕ} {u : Option Tree} → Chain rows links p (length rows) (length rows) left u → u ≡ none
chain-none (end e z f) = f
chain-none (next less v a b e z f ch) = absurd (omega arith)

-- something hangs under each row that is no sink
hung-none : {types : List Repeater} {rows : List Row} → Accepted types rows → (r : ℕ) → r < length rows → T (not (is_sink (get_or rows r no_row).kind)) → (under rows r (r + 1) ≡ none → ⊥)
hung-none ok r h plain e = let (a, b) = first-inside ok r h plain in from_some ok _ b (from-child _ r (r + 1) (omega arith) ∙ e)

-- ---- what the links say
module _ {rows : List Row} {links : List ℕ} (B : Backward rows links) where
  pub first-after : Rising links (length rows)
  first-after p h = go (B.below p h).chain
    where
      go : {c left : ℕ} {u : Option Tree} → Chain rows links p (length rows) c left u → (p < c) × (c ≤ length rows)
      go (end e z f) = (omega arith, omega arith)
      go (next less v a b e z f ch) = (a, omega arith)

  -- the first row below p
  pub first_below : (p c : ℕ) → p < length rows → get_or links p 0 ≡ c → c < length rows → Below rows p c
  first_below p c h e g = (chain_next (rw e at (B.below p h).chain) g).below

  -- all the rows below p
  pub all-below : (p : ℕ) → (h : p < length rows) → Alike (B.below p h).hung (under rows p (p + 1))
  all-below p h = rw (under-end rows p (length rows) (omega arith), beside_none (B.below p h).hung) at (B.below p h).alike

  -- under a row with none below it nothing hangs
  pub none_below : (r : ℕ) → r < length rows → get_or links r 0 ≡ length rows → under rows r (r + 1) ≡ none
  none_below r h e = alike-none (under rows r (r + 1)) (rw (chain-none (rw e at (B.below r h).chain)) at (all-below r h))

  -- and it is a sink
  pub end-sink : {types : List Repeater} → Accepted types rows → (r : ℕ) → r < length rows → get_or links r 0 ≡ length rows → (kind : Kind) → (get_or rows r no_row).kind ≡ kind → (pin : Pin) × (kind ≡ Sink pin)
  end-sink ok r h e Driver k = absurd (hung-none ok r h (rw k tt) (none_below r h e))
  end-sink ok r h e Point k = absurd (hung-none ok r h (rw k tt) (none_below r h e))
  end-sink ok r h e (Sink pin) k = (pin, refl)

-- ---- the room passes to every row below
-- fewer rows hang no more sites
under-fewer : (rows : List Row) (p i d : ℕ) → i + d ≤ length rows → over sites_on (under rows p (i + d)) ≤ over sites_on (under rows p i)
unfolding from
under-fewer rows p i zero h = let z : i + 0 ≡ i = omega arith in rw z (omega arith)
under-fewer rows p i (suc d) h = omega (arith, one (i + d) (omega arith) (ℕ_discrete (get_or rows (i + d) no_row).parent p), under-fewer rows p i d (omega arith), ap (λ j. over sites_on (under rows p j)) next)
  where
    next : i + suc d ≡ i + d + 1
    next = omega arith

    one : (j : ℕ) → j < length rows → Dec ((get_or rows j no_row).parent ≡ p) → over sites_on (under rows p (j + 1)) ≤ over sites_on (under rows p j)
    one j g (yes e) = omega (arith, rw e at (sites-step rows j g))
    one j g (no e) = rw (under-passed rows p j g e) (omega arith)

module _ {types : List Repeater} {rows : List Row} (ok : Accepted types rows) where
  -- a row with another below it is no sink
  pub above-plain : (p c : ℕ) → Below rows p c → T (not (is_sink (get_or rows p no_row).kind))
  above-plain p c d = rw d.parent at (later-at ok no_row c (omega (arith, d.after)) d.inside).above

  pub room-child : (k p s at : ℕ) → Below rows p s → HasRoom k at (length rows - (p + 1)) (seen_at rows p) → HasRoom k at (length rows - s) (from rows s)
  unfolding seen_at from
  room-child k p s at d g =
      let q = room-under k at (length rows - (p + 1)) (get_or rows p no_row).site (get_or rows p no_row).kind (sites_before rows p) (under rows p (p + 1)) (above-plain p s d) g in
      let z : p + 1 + (s - (p + 1)) ≡ s = omega (arith, d.after) in
      let f : over sites_on (under rows p s) ≤ over sites_on (under rows p (p + 1)) = rw z at (under-fewer rows p (p + 1) (s - (p + 1)) (omega (arith, d.after, d.inside))) in
      rw d.parent (omega (arith, q, d.after, d.inside, mul-le-mul_left k f))

  -- and so down the way
  pub spine-room : {links : List ℕ} → Backward rows links → (k row at r : ℕ) → row < length rows → HasRoom k at (length rows - (row + 1)) (seen_at rows row) → Spine links (length rows) row r → (r < length rows) × HasRoom k at (length rows - (r + 1)) (seen_at rows r)
  spine-room B k row at r h g (here e) = rw e (h, g)
  spine-room B k row at r h g (down p i s e l) =
      let (a, b) = spine-room B k row at p h g s in
      (l, room-alone k rows r at l (room-child k p r at (first_below B p r i e l) b))
