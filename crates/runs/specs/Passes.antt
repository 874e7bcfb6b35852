-- A pass over a run of records: a turn, and turns until nothing is left. Assumes nothing.
use Rattle.std.specs.Prelude.{◌≡◌, List, ◌≤◌, ◌<◌, length, get_or, set}
use Rattle.rules.specs.Quantities.{work_room}
use Rattle.rules.specs.declared.Cand.{Cand}
use Rattle.rules.specs.Areas.{zeros}
use Rattle.turns.specs.declared.Pass.{Pass}
use Rattle.turns.specs.declared.Turn.{Turn}
use Rattle.values.specs.Records.{cand_of}
use Rattle.turns.specs.Turns.{Here, Can, Turned}

-- what the pass reads
abbrev pub first : Pass → List Cand → Cand
first p w = get_or w p.from zeros

abbrev pub second : Pass → List Cand → Cand
second p w = get_or w p.with zeros

-- a turn can be taken
pub record Ready (p : Pass) (w : List Cand) : Type 0 where
  pub long : work_room ≤ length w
  pub here : Here p
  pub can : Can p.step (cand_of (first p w)) (cand_of (second p w))

-- a turn was taken
pub record Took (p : Pass) (w : List Cand) (r : Pass) (w' : List Cand) : Type 0 where
  pub turn : Turn
  pub is : Turned p.step p (first p w) (second p w) turn
  pub put : w' ≡ set w p.to turn.put
  pub next : r ≡ turn.next

-- turns can be taken until nothing is left
pub data Safe : Pass → List Cand → Type 0 where
  over : {p : Pass} {w : List Cand} → p.left ≤ 0 → Safe p w
  more : {p : Pass} {w : List Cand} → Ready p w → ((t : Turn) → Turned p.step p (first p w) (second p w) t → Safe t.next (set w p.to t.put)) → Safe p w

-- turns were taken until nothing is left
pub data Swept : Pass → List Cand → Pass → List Cand → Type 0 where
  none : {p : Pass} {w : List Cand} → p.left ≤ 0 → Swept p w p w
  turn : {p q : Pass} {w w' : List Cand} (t : Turn) → 0 < p.left → Turned p.step p (first p w) (second p w) t → Swept t.next (set w p.to t.put) q w' → Swept p w q w'
