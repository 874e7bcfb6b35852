-- The time of a placement at a tree, made from the sinks up, is the least that the walk from the driver down gives. Assumes nothing.
use Rattle.std.specs.Prelude.{◌≡◌, List, ◌++◌, ℕ, ◌+◌, ◌*◌, ℤ, ◌≤ℤ◌}
use Rattle.std.proofs.Math.Path.{refl}
use Rattle.std.proofs.Common.{◌∙◌, ⊎_elim}
use Rattle.rules.specs.Quantities.{◌⊖◌}
use Rattle.rules.specs.Lists.{Least, nil, cons, here}
use Rattle.rules.specs.Entries.{Repeater}
use Rattle.rules.specs.Placements.{Placement}
use Rattle.rules.specs.Net.{Tree, sink, site, wire, both}
use Rattle.rules.specs.Slack.{wire_delay, repeater_delay, load_of, slacks, IsSlack}
use Rattle.laws.specs.Integers.{⊖-swap, ⊖-zero, minℤ, Lesser, min-lesser, min-⊖, ≤_trans, ≤-refl, ≤-antisym}
use Rattle.laws.specs.Lists.{all-imp, any-imp, any-all, all-++, any_left, any-right}

-- a list has one least
pub least-unique : {m n : ℤ} {l : List ℤ} → Least m l → Least n l → m ≡ n
least-unique f g = ≤-antisym (no_more f g) (no_more g f)
  where
    no_more : {m n : ℤ} {l : List ℤ} → Least m l → Least n l → m ≤ℤ n
    no_more f g = let (t, h, e) = any-all f.below g.among in rw e h

least-++ : {m n : ℤ} {k l : List ℤ} → Least m k → Least n l → Least (minℤ m n) (k ++ l)
least-++ {m} {n} {k} {l} f g = record {
  below = all-++ (all-imp (λ t h. ≤_trans q.left h) f.below) (all-imp (λ t h. ≤_trans q.right h) g.below);
  among = ⊎_elim (λ e. any_left l (any-imp (λ t h. e ∙ h) f.among)) (λ e. any-right k (any-imp (λ t h. e ∙ h) g.among)) q.one;
}
  where
    q : Lesser m n (minℤ m n)
    q = min-lesser m n

least_at : {m n : ℤ} {l : List ℤ} → m ≡ n → Least m l → Least n l
least_at e f = rw e at f

module _ (types : List Repeater) (p : Placement) where
  -- from the sinks up: the least, over sinks, of required time minus the delays between here and the sink
  unfoldable pub time : Tree → ℤ
  time (sink pin due) = due
  time (site j t) = time t ⊖ repeater_delay types (p j) (load_of types p t)
  time (wire w t) = time t ⊖ wire_delay w (load_of types p t)
  time (both s t) = minℤ (time s) (time t)

  time-least : (arrival : ℕ) (t : Tree) → Least (time t ⊖ arrival) (slacks types p arrival t)
  unfolding time slacks
  time-least d (sink pin due) = record { below = cons (≤-refl _) nil; among = here refl }
  time-least d (site j t) = least_at (⊖-swap _ d _) (time-least (d + repeater_delay types (p j) (load_of types p t)) t)
  time-least d (wire w t) = least_at (⊖-swap _ d _) (time-least (d + wire_delay w (load_of types p t)) t)
  time-least d (both s t) = rw (← min-⊖) (least-++ (time-least d s) (time-least d t))

  -- the time is the least, over the sinks at or below, of required time minus the delays between
  pub time-is : (t : Tree) → Least (time t) (slacks types p 0 t)
  time-is t = least_at (⊖-zero _) (time-least 0 t)

  -- the slack walked from the driver down is the time at the driver less the driver's delay
  pub slack_is : (driver : ℕ) (t : Tree) → IsSlack types p driver t (time t ⊖ (driver * load_of types p t))
  unfolding IsSlack
  slack_is driver t = time-least (driver * load_of types p t) t
