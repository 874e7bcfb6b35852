-- A line stored after those that have passed: the own delay's word, the room that a line of each kind has, and how the areas have
-- grown. Assumes nothing.
use Rattle.std.specs.Prelude.{◌≡◌, refl, true, false, List, [], ◌∷◌, ◌++◌, ℕ, ◌+◌, ◌*◌, ◌<◌, ◌^◌, T, ℤ, pos, negsuc, nat_abs, take, Result, Ok, Err}
use Rattle.std.proofs.Math.Path.{sym}
use Rattle.std.proofs.Common.{true≢false, append-nil, arith, ltb-true, Fits, to_z, of_z}
use Rattle.std.specs.Int.Signed.{mag, lt_z, non_neg}
use Rattle.std.specs.Int.{w32, w64}
use Rattle.rules.specs.Tables.{words_a_type, words_a_row, driver_kind, point_kind, sink_kind}
use Rattle.rules.specs.Quantities.{types_room, rows_room}
use Rattle.rules.specs.declared.Ohm.{Ohm}
use Rattle.rules.specs.declared.Pin.{Pin}
use Rattle.rules.specs.declared.Refusal.{Refusal}
use Rattle.rooms.specs.Cap.{word_cap}
use Rattle.text.specs.Stretches.{absurd}
use Rattle.text.specs.Numbers.{bits_back}
use Rattle.repeaters.specs.declared.Buffer.{Buffer}
use Rattle.checks.specs.declared.Wire.{Wire}
use Rattle.checks.specs.declared.Passed.{Passed}
use Rattle.checks.specs.declared.Line.{Line}
use Rattle.checks.specs.declared.Line.TheVariants.{Repeater as TypeLine, Driver as DriverLine, Point as PointLine, Sink as SinkLine}
use Rattle.entries.specs.Lines.{wire_of, pin_of}
use Rattle.entries.specs.Held.{own_word, words_of_type, words_of_row, Roomy, Grown}

-- ---- an own delay by its bits
own-neg : (z : ℤ) → lt_z z (pos 0) ≡ true → 0 ≡ own_word z
own-neg (pos n) e = absurd (omega (arith, ltb-true n 0 e))
own-neg (negsuc n) e = refl

own-pos : (z : ℤ) → lt_z z (pos 0) ≡ false → T (non_neg z) × (nat_abs z ≡ own_word z)
own-pos (pos n) e = (tt, refl)
own-pos (negsuc n) e = absurd (true≢false e)

pub own-negative : (z : ℤ) → mag z < 2 ^ 63 → lt_z (to_z w64 (of_z w64 z)) (pos 0) ≡ true → 0 ≡ own_word z
own-negative z h e = own-neg z (rw (bits_back z h) at e)

pub own_is : (z : ℤ) → mag z < 2 ^ 63 → lt_z (to_z w64 (of_z w64 z)) (pos 0) ≡ false → nat_abs (to_z w64 (of_z w64 z)) ≡ own_word z
own_is z h e = rw (bits_back z h) (own-pos z (rw (bits_back z h) at e)).1

pub own-fits : (z : ℤ) → mag z < 2 ^ 63 → own_word z < word_cap → lt_z (to_z w64 (of_z w64 z)) (pos 0) ≡ false
    → T (non_neg (to_z w64 (of_z w64 z))) × Fits w32 (nat_abs (to_z w64 (of_z w64 z)))
own-fits z h s e =
    let g = own-pos z (rw (bits_back z h) at e) in
    rw (bits_back z h) (g.0, record { fits = omega (arith, g.1) })

-- ---- the room of a line of each kind
module _ (n : Passed) (line : Result Line Refusal) where
  pub roomy-type : (t : Buffer) → line ≡ Ok (TypeLine t) → Roomy n line → (n.types < types_room) × (own_word t.own.0 < word_cap)
  roomy-type t e h = rw e at h

  pub roomy-driver : (o : Ohm) → line ≡ Ok (DriverLine o) → Roomy n line → n.rows < rows_room
  roomy-driver o e h = rw e at h

  pub roomy-point : (w : Wire) → line ≡ Ok (PointLine w) → Roomy n line → n.rows < rows_room
  roomy-point w e h = rw e at h

  pub roomy-sink : (w : Wire) (p : Pin) → line ≡ Ok (SinkLine w p) → Roomy n line → n.rows < rows_room
  roomy-sink w p e h = rw e at h

  -- ---- how the areas have grown
  pub grown-type : (t : Buffer) → line ≡ Ok (TypeLine t) → (types types' rows : List ℕ) (due : List ℤ)
      → take (words_a_type * (n.types + 1)) types' ≡ take (words_a_type * n.types) types ++ words_of_type t → Grown n line types types' rows rows due due
  grown-type t e types types' rows due g =
      rw e (record { types_grown = g; rows_grown = sym (append-nil (take (words_a_row * n.rows) rows)); due_grown = sym (append-nil (take n.rows due)) })

  pub grown-driver : (o : Ohm) → line ≡ Ok (DriverLine o) → (types rows rows' : List ℕ) (due due' : List ℤ) (w : Wire) (p : Pin) → w ≡ wire_of 0 o.0 0 0 → p ≡ pin_of 0 (pos 0)
      → take (words_a_row * (n.rows + 1)) rows' ≡ take (words_a_row * n.rows) rows ++ words_of_row driver_kind w p.load.0 → take (n.rows + 1) due' ≡ take n.rows due ++ (p.due.0 ∷ [])
      → Grown n line types types rows rows' due due'
  unfolding pin_of
  grown-driver o e types rows rows' due due' w p f h g i =
      rw e (record { types_grown = sym (append-nil (take (words_a_type * n.types) types)); rows_grown = rw (f, h) at g; due_grown = rw h at i })

  pub grown-point : (w : Wire) → line ≡ Ok (PointLine w) → (types rows rows' : List ℕ) (due due' : List ℤ) (p : Pin) → p ≡ pin_of 0 (pos 0)
      → take (words_a_row * (n.rows + 1)) rows' ≡ take (words_a_row * n.rows) rows ++ words_of_row point_kind w p.load.0 → take (n.rows + 1) due' ≡ take n.rows due ++ (p.due.0 ∷ [])
      → Grown n line types types rows rows' due due'
  unfolding pin_of
  grown-point w e types rows rows' due due' p h g i =
      rw e (record { types_grown = sym (append-nil (take (words_a_type * n.types) types)); rows_grown = rw h at g; due_grown = rw h at i })

  pub grown-sink : (w : Wire) (p : Pin) → line ≡ Ok (SinkLine w p) → (types rows rows' : List ℕ) (due due' : List ℤ)
      → take (words_a_row * (n.rows + 1)) rows' ≡ take (words_a_row * n.rows) rows ++ words_of_row sink_kind w p.load.0 → take (n.rows + 1) due' ≡ take n.rows due ++ (p.due.0 ∷ [])
      → Grown n line types types rows rows' due due'
  grown-sink w p e types rows rows' due due' g i =
      rw e (record { types_grown = sym (append-nil (take (words_a_type * n.types) types)); rows_grown = g; due_grown = i })

  pub grown-none : (r : Refusal) → line ≡ Err r → (types rows : List ℕ) (due : List ℤ) → Grown n line types types rows rows due due
  grown-none r e types rows due =
      rw e (record { types_grown = sym (append-nil (take (words_a_type * n.types) types)); rows_grown = sym (append-nil (take (words_a_row * n.rows) rows)); due_grown = sym (append-nil (take n.rows due)) })
