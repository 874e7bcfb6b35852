-- What is left of a pass falls at each turn, and an invariant that every turn keeps holds where nothing is left. Assumes nothing.
use Rattle.std.specs.Prelude.{◌≡◌, refl, Bool, true, false, cond, List, ℕ, zero, suc, ◌+◌, ◌-◌, ◌≤◌, ◌<◌, ltb, set}
use Rattle.std.proofs.Common.{ap, arith}
use Rattle.std.specs.Int.Signed.{lt_z}
use Rattle.pairs.specs.Stands.{is_below, is_covering, is_covered}
use Rattle.rules.specs.declared.Cand.{Cand}
use Rattle.turns.specs.declared.Step.{Step}
use Rattle.turns.specs.declared.Step.TheVariants.{Put, Move, FirstWire, Wire, FirstChoice, Choose, Insert, Shift, Branch}
use Rattle.turns.specs.declared.Pass.{Pass}
use Rattle.turns.specs.declared.Turn.{Turn}
use Rattle.values.specs.Values.{worth_of}
use Rattle.turns.specs.Turns.{pass_of, Turned, Shifting, on_from, on_with}
use Rattle.runs.specs.Passes.{first, second, Ready, Took, Safe, over, more, Swept, none, turn}

-- a turn that goes on with fewer
less_by : (p : Pass) (t : Turn) (q : Pass) (k : ℕ) → t.next ≡ q → q.left ≡ p.left - suc k → 0 < p.left → t.next.left < p.left
less_by p t q k e f h = let g : t.next.left ≡ q.left = ap (λ (z : Pass). z.left) e in omega (arith, f)

pub turned-less : (s : Step) (p : Pass) (x y : Cand) (t : Turn) → Turned s p x y t → 0 < p.left → t.next.left < p.left
turned-less Put p x y t h l = less_by p t _ 0 h.1 refl l
turned-less Move p x y t h l = less_by p t _ 0 h.1 refl l
turned-less (FirstWire r c) p x y t h l = less_by p t _ 0 h.1 refl l
turned-less (Wire r c) p x y t h l = go (lt_z y.time.0 t.put.time.0) h.1
  where
    go : (b : Bool) → t.next ≡ cond b (pass_of (Wire r c) (p.left - 1) (p.from + 1) p.to (p.to + 1) p.held p.worth) (pass_of (Wire r c) (p.left - 1) (p.from + 1) p.with p.to p.held p.worth) → t.next.left < p.left
    go true e = less_by p t _ 0 e refl l
    go false e = less_by p t _ 0 e refl l
turned-less (FirstChoice own r) p x y t h l = less_by p t _ 0 h.1 refl l
turned-less (Choose own r) p x y t h l = go (lt_z p.worth.0 (worth_of own r x).0) h.1
  where
    go : (b : Bool) → t.next ≡ cond b (pass_of (Choose own r) (p.left - 1) (p.from + 1) p.with (p.to + 1) x (worth_of own r x)) (pass_of (Choose own r) (p.left - 1) (p.from + 1) p.with (p.to + 1) p.held p.worth) → t.next.left < p.left
    go true e = less_by p t _ 0 e refl l
    go false e = less_by p t _ 0 e refl l
turned-less Insert p x y t h l = go (ltb p.left 2) (is_below x.load.0 x.time.0 p.held.load.0 p.held.time.0) (is_covered p.held.load.0 p.held.time.0 x.load.0 x.time.0) (is_covering p.held.load.0 p.held.time.0 x.load.0 x.time.0) h
  where
    go : (a b c d : Bool) → cond a (Shifting p x t) (cond b ((t.put ≡ x) × (t.next ≡ pass_of Insert (p.left - 1) (p.from + 1) p.with (p.to + 1) p.held p.worth)) (cond c ((t.put ≡ x) × (t.next ≡ pass_of Move (p.left - 2) (p.from + 1) p.with (p.to + 1) p.held p.worth)) (cond d ((t.put ≡ x) × (t.next ≡ pass_of Insert (p.left - 1) (p.from + 1) p.with p.to p.held p.worth)) (Shifting p x t)))) → t.next.left < p.left
    go true b c d e = less_by p t _ 0 e.1 refl l
    go false true c d e = less_by p t _ 0 e.1 refl l
    go false false true d e = less_by p t _ 1 e.1 refl l
    go false false false true e = less_by p t _ 0 e.1 refl l
    go false false false false e = less_by p t _ 0 e.1 refl l
turned-less Shift p x y t h l = less_by p t _ 0 h.1 refl l
turned-less (Branch end mid) p x y t h l = go (ltb (on_from p x y) end) (ltb (on_with p x y) mid) (ap (λ (z : Pass). z.left) h.1)
  where
    go : (a b : Bool) → t.next.left ≡ cond a (cond b (p.left - 1) 0) 0 → t.next.left < p.left
    go true true e = omega arith
    go true false e = omega arith
    go false b e = omega arith

pub took-less : {p r : Pass} {w w' : List Cand} → Took p w r w' → 0 < p.left → r.left < p.left
took-less {p} {r} {w} k l = let e : r.left ≡ k.turn.next.left = ap (λ (z : Pass). z.left) k.next in omega (arith, turned-less p.step p (first p w) (second p w) k.turn k.is l)

-- ---- a turn of a pass that is safe
pub safe-ready : {p : Pass} {w : List Cand} → Safe p w → 0 < p.left → Ready p w
safe-ready (over h) l = absurd (omega arith)
safe-ready (more r f) l = r

pub safe-next : {p : Pass} {w : List Cand} → Safe p w → 0 < p.left → (t : Turn) → Turned p.step p (first p w) (second p w) t → Safe t.next (set w p.to t.put)
safe-next (over h) l t k = absurd (omega arith)
safe-next (more r f) l t k = f t k

pub safe-took : {p r : Pass} {w w' : List Cand} → Safe p w → 0 < p.left → Took p w r w' → Safe r w'
safe-took {p} {r} {w} {w'} s l k = rw (k.next, k.put) (safe-next s l k.turn k.is)

pub swept-took : {p r q : Pass} {w w' v : List Cand} → 0 < p.left → Took p w r w' → Swept r w' q v → Swept p w q v
swept-took {p} {r} {q} {w} {w'} {v} l k s = turn k.turn l k.is (rw (k.next, k.put) at s)

-- ---- what every turn keeps
module _ (Inv : Pass → List Cand → Type 0) (ready : (p : Pass) (w : List Cand) → Inv p w → 0 < p.left → Ready p w)
    (step : (p : Pass) (w : List Cand) → Inv p w → 0 < p.left → (t : Turn) → Turned p.step p (first p w) (second p w) t → Inv t.next (set w p.to t.put)) where
  pub kept-safe : (p : Pass) (w : List Cand) → Inv p w → Safe p w
  kept-safe p w i = go p.left p w i (omega arith)
    where
      go : (n : ℕ) (p : Pass) (w : List Cand) → Inv p w → p.left ≤ n → Safe p w
      go zero p w i h = over h
      go (suc n) p w i h = by p.left refl (go n)
        where
          by : (k : ℕ) → p.left ≡ k → ((q : Pass) (v : List Cand) → Inv q v → q.left ≤ n → Safe q v) → Safe p w
          by zero e f = over {p = p} (omega arith)
          by (suc k) e f = more (ready p w i (omega arith)) (λ t is. f t.next (set w p.to t.put) (step p w i (omega arith) t is) (omega (arith, turned-less p.step p (first p w) (second p w) t is (omega arith))))

  pub kept-swept : {p r : Pass} {w w' : List Cand} → Swept p w r w' → Inv p w → Inv r w' × (r.left ≤ 0)
  kept-swept (none h) i = (i, h)
  kept-swept {p} {r} {w} (turn t l is s) i = kept-swept s (step p w i l t is)
