-- The pair of a placement at a row, unbeaten pairs, and the placement of greatest slack. Assumes nothing.
use Rattle.std.specs.Prelude.{◌≡◌, ◌⊎◌, ℕ, ◌+◌, ◌≤◌, ◌<◌, ℤ, length, ◌≤ℤ◌, ◌<ℤ◌}
use mathlib.Core.List.{List, Pairwise}
use Rattle.rules.specs.Lists.{All, Any, Least}
use Rattle.rules.specs.Entries.{Repeater}
use Rattle.rules.specs.Placements.{Placement}
use Rattle.rules.specs.Net.{Tree, sink, site, wire, both}
use Rattle.rules.specs.Slack.{load_of, slacks, IsSlack}

-- site j is one of the tree's
abbrev pub On : Tree → (j : ℕ) → Type 0
On (sink pin due) j = ⊥
On (site k t) j = (j ≡ k) ⊎ On t j
On (wire w t) j = On t j
On (both s t) j = On s j ⊎ On t j

-- how many sites the tree has
unfoldable pub sites_on : Tree → ℕ
sites_on (sink pin due) = 0
sites_on (site k t) = 1 + sites_on t
sites_on (wire w t) = sites_on t
sites_on (both s t) = sites_on s + sites_on t

pub record Pair : Type 0 where
  pub load : ℕ
  pub time : ℤ

-- the load no greater, the time no less
pub record NoWorse (a b : Pair) : Type 0 where
  pub load : a.load ≤ b.load
  pub time : b.time ≤ℤ a.time

-- and the two differ. No promise needs this: it is the paper's word, and `listed-iff`, which `Unbeaten` points at, is said with it
pub record Beats (a b : Pair) : Type 0 where
  pub no_worse : NoWorse a b
  pub differ : ¬ (a ≡ b)

-- load and time both less
pub record Below (a b : Pair) : Type 0 where
  pub load : a.load < b.load
  pub time : a.time <ℤ b.time

-- of the pairs in R, those that none beats: loads and times strictly rising, each in R, each of R equalled or beaten by one of them. That
-- a pair is listed exactly when it is in R and none of R beats it is the law `listed-iff` (`laws`, Listing); so there is one such list
pub record Unbeaten (R : Pair → Type 0) (l : List Pair) : Type 0 where
  pub rising : Pairwise Below l
  pub reached : All R l
  pub whole : (c : Pair) → R c → Any (λ m. NoWorse m c) l

module _ (types : List Repeater) where
  -- a placement at or below a row marks only sites there, and with types that there are
  pub record Legal (t : Tree) (p : Placement) : Type 0 where
    pub known : (j : ℕ) → p j ≤ length types
    pub only : (j : ℕ) → ¬ (On t j) → p j ≡ 0

  -- its pair: the seen load, and the least, over sinks at or below, of required time minus the delays between
  pub record PairOf (t : Tree) (p : Placement) (c : Pair) : Type 0 where
    pub load : c.load ≡ load_of types p t
    pub time : Least c.time (slacks types p 0 t)

  -- the pairs that legal placements have
  abbrev pub Reached : Tree → Pair → Type 0
  Reached t c = (p : Placement) × Legal t p × PairOf t p c

  -- no legal placement has a greater slack, and none of as great a slack a lesser load on the driver
  pub record Planned (driver : ℕ) (t : Tree) (p : Placement) (slack : ℤ) (on_driver : ℕ) : Type 0 where
    pub legal : Legal t p
    pub slack_is : IsSlack types p driver t slack
    pub load_is : on_driver ≡ load_of types p t
    pub greatest : (q : Placement) (other : ℤ) → Legal t q → IsSlack types q driver t other → other ≤ℤ slack
    pub least : (q : Placement) → Legal t q → IsSlack types q driver t slack → on_driver ≤ load_of types q t
