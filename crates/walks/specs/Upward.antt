-- The loops of the walk: a row's list before its site is put on it, and the lists of the rows under one parent, in the order of the links.
-- Assumes nothing.
use Rattle.std.specs.Prelude.{◌≡◌, refl, not, List, [], ℕ, suc, ◌+◌, ◌*◌, ◌-◌, ◌≤◌, ◌<◌, T, ℤ, length, get_or, set}
use Rattle.std.proofs.Common.{sym, ap, ◌∙◌, arith, mul-le-mul, mul-le-mul_left, mul-add}
use Rattle.std.proofs.Math.Option.{Option, none, some, some-injective}
use Rattle.rules.specs.declared.Kind.{Kind}
use Rattle.rules.specs.declared.Kind.TheVariants.{Driver, Point, Sink}
use Rattle.rules.specs.declared.Pin.{Pin}
use Rattle.rules.specs.declared.Row.{Row}
use Rattle.rules.specs.Quantities.{work_room}
use Rattle.rules.specs.Entries.{Repeater}
use Rattle.rules.specs.Refusals.{is_sink}
use Rattle.rules.specs.Net.{Wire, Tree, wire_of, wired, beside}
use Rattle.rules.specs.Pairs.{sites_on}
use Rattle.rooms.specs.Links.{next_at}
use Rattle.laws.specs.Lists.{all-imp}
use Rattle.laws.specs.Joining.{join_marks}
use Rattle.laws.specs.Steps.{merge}
use Rattle.laws.specs.Moves.{wire_step}
use Rattle.laws.specs.Candidates.{Front}
use Rattle.laws.specs.Method.{Reaches}
use Rattle.laws.specs.Trees.{time}
use Rattle.laws.specs.Accepted.{Accepted}
use Rattle.laws.specs.Hanging.{ProperIf, hangs-parted}
use Rattle.laws.specs.Sums.{over}
use Rattle.laws.specs.Within.{Within, within-under}
use Rattle.laws.specs.Room.{HasRoom, room-under}
use Rattle.laws.specs.Walk.{no_row, sites_before, under, seen_at, child}
use Rattle.rows.specs.Alike.{Alike, alike_then, alike-first, alike-within, within-left, beside_none, sites-beside, proper-parts}
use Rattle.rows.specs.Backward.{Backward, Chain, next, chain_left, chain-one, hung_at, rows_left}
use Rattle.columns.specs.Parts.{part, part-over, part-less, part-part}
use Rattle.columns.specs.Run.{Candidate, candidate}
use Rattle.columns.specs.Made.{Gives}
use Rattle.walks.specs.Shown.{Shows, start_list, site_list, shows-any, shows-length, shows-fit, shows_beside, shows-wired}
use Rattle.walks.specs.Made.{Made, Driven, Wired, Hang}
use Rattle.walks.specs.Links.{from-child, besides, seen-some, seen-proper}
use Rattle.walks.specs.Spine.{Below, Linked, chain_next, chain-none, all-below, above-plain, room-child}
use Rattle.walks.specs.Recursion.{seen-made, alone, pin-sited, nothing-under, under-sited, own-wired, made-few, made_some}

-- a row that is no sink starts with what hangs under it
starts : (kind : Kind) → T (not (is_sink kind)) → (l : List Candidate) → start_list kind l ≡ l
starts Driver h l = refl
starts Point h l = refl
starts (Sink pin) h l = absurd h

-- made since w₁, and so since any run with the same start
pub made-since : {types : List Repeater} {u : _} {w₁ w₂ : List Candidate} {at len : ℕ} (w : List Candidate) → part 0 at w₁ ≡ part 0 at w → Made types u w₁ w₂ at len → Made types u w w₂ at len
made-since w b M = record { before = M.before ∙ b; shows = M.shows; fits = M.fits }

-- and a list as it stands
pub made-here : {types : List Repeater} {u : _} {w w₁ : List Candidate} {at len : ℕ} → Made types u w w₁ at len → Made types u w₁ w₁ at len
made-here M = record { before = refl; shows = M.shows; fits = M.fits }

-- the rows below p that the links lead to up to row c hang as `hung`, and have their list; the rest is still to come
pub record Siblings (types : List Repeater) (rows : List Row) (links : List ℕ) (p c : ℕ) (w w₁ : List Candidate) (at m : ℕ) : Type 0 where
  pub below : Below rows p c
  pub hung : Option Tree
  pub some : hung ≡ none → ⊥
  pub left : ℕ
  pub few : left ≤ length rows
  pub rest : Option Tree
  pub chain : Chain rows links p (length rows) (get_or links (next_at + c) 0) left rest
  pub alike : Alike (beside hung rest) (under rows p (p + 1))
  pub made : Made types hung w w₁ at m

pub siblings-here : {types : List Repeater} {rows : List Row} {links : List ℕ} {p c : ℕ} {w w₁ : List Candidate} {at m : ℕ} → Siblings types rows links p c w w₁ at m → Siblings types rows links p c w₁ w₁ at m
siblings-here S = record { below = S.below; hung = S.hung; some = S.some; left = S.left; few = S.few; rest = S.rest; chain = S.chain; alike = S.alike; made = made-here S.made }

pub driven-here : {types : List Repeater} {rows : List Row} {r : ℕ} {w w₁ : List Candidate} {at m : ℕ} → Driven types rows r w w₁ at m → Driven types rows r w₁ w₁ at m
driven-here D = record { before = refl; hung = D.hung; shows = D.shows; list = D.list; sited = D.sited }

-- something is there
wired-some : (w : Wire) (u : Option Tree) → (u ≡ none → ⊥) → (wired w u ≡ none → ⊥)
wired-some w none f e = f refl
wired-some w (some t) f e = let z : ◌≡◌ {A = ℕ} 0 1 = cc in omega arith

beside-some : (u v : Option Tree) → (u ≡ none → ⊥) → (beside u v ≡ none → ⊥)
beside-some none v f e = f refl
beside-some (some t) none f e = f e
beside-some (some t) (some s) f e = let z : ◌≡◌ {A = ℕ} 0 1 = cc in omega arith

-- what shows a tree shows each that is like it
abbrev time_or : Option ℤ → ℤ → ℤ
time_or none z = z
time_or (some t) z = t

module _ (types : List Repeater) where
  alike-shows : (u v : Option Tree) (l : List Candidate) → ProperIf v → Alike u v → Shows types u l → Shows types v l
  alike-shows u v l ok A s = go u v ok A s
    where
      clash : (t : ℤ) → some t ≡ none → ◌≡◌ {A = ℕ} 0 1
      clash t e = cc

      go : (u v : Option Tree) → ProperIf v → Alike u v → Shows types u l → Shows types v l
      go none none p A s = s
      go none (some t) p A s = absurd (let z = clash (time types (λ j. 0) t) (sym (A.time types (λ j. 0))) in omega arith)
      go (some t) none p A s = absurd (let z = clash (time types (λ j. 0) t) (A.time types (λ j. 0)) in omega arith)
      go (some a) (some b) p A C = record { exact = C.exact ∙ some-injective _ _ (A.list types p); front = over C.front }
        where
          over : Front (Reaches types a) l → Front (Reaches types b) l
          over F = record {
            rising = F.rising;
            sound = all-imp (λ c r. record { legal = record { known = r.legal.known; only = λ j o. r.legal.only j (λ k. o (A.on j k)) }; load = r.load ∙ A.load types c.place; time = r.time ∙ ap (λ z. time_or z c.time) (A.time types c.place) }) F.sound;
            whole = λ c r. F.whole c (record { legal = record { known = r.legal.known; only = λ j o. r.legal.only j (λ k. o (A.back j k)) }; load = r.load ∙ sym (A.load types c.place); time = r.time ∙ ap (λ z. time_or z c.time) (sym (A.time types c.place)) });
          }

module _ {types : List Repeater} {rows : List Row} (ok : Accepted types rows) where
  -- ---- at a row
  module _ (r at : ℕ) (inside : r < length rows) (room : HasRoom (length types) at (length rows - (r + 1)) (seen_at rows r)) where
    pub pin-driven : (w w₁ : List Candidate) → work_room ≤ length w → (pin : Pin) → (get_or rows r no_row).kind ≡ Sink pin → w₁ ≡ set w at (candidate pin.load.0 pin.due.0 (λ j. 0)) → Driven types rows r w w₁ at 1
    pin-driven w w₁ long pin e q = record {
      before = rw q (part-over 0 at w at _ (omega arith));
      hung = [];
      shows = rw (nothing-under ok r at inside room (get_or rows r no_row) refl (sites_before rows r) refl w w₁ long pin e q) refl;
      list = rw e (alone ok r at inside room (get_or rows r no_row) refl (sites_before rows r) refl w w₁ long pin e q);
      sited = pin-sited ok r at inside room (get_or rows r no_row) refl (sites_before rows r) refl w w₁ long pin e q;
    }

    pub under-driven : T (not (is_sink (get_or rows r no_row).kind)) → (w w₁ : List Candidate) → work_room ≤ length w₁ → (m : ℕ) → Made types (under rows r (r + 1)) w w₁ at m → Driven types rows r w w₁ at m
    under-driven plain w w₁ long m M = record {
      before = M.before;
      hung = part at (at + m) w₁;
      shows = M.shows;
      list = sym (starts (get_or rows r no_row).kind plain (part at (at + m) w₁));
      sited = under-sited ok r at inside room (get_or rows r no_row) refl (sites_before rows r) refl plain (child rows r (r + 1)) refl w w₁ long m (rw (from-child rows r (r + 1) (omega arith)) M);
    }

    pub driven-made : (w w₁ w₂ : List Candidate) (m len : ℕ) → Driven types rows r w w₁ at m → Gives w₁ w₂ at len (site_list types (get_or rows r no_row).site (sites_before rows r) (part at (at + m) w₁)) → Made types (seen_at rows r) w w₂ at len
    driven-made w w₁ w₂ m len D G = seen-made ok r at inside room (get_or rows r no_row) refl (sites_before rows r) refl w w₁ w₂ D.hung len D.shows D.before (rw D.list at G)

  -- ---- under one parent
  module _ {links : List ℕ} (B : Backward rows links) (p at : ℕ) (inside : p < length rows) (room : HasRoom (length types) at (length rows - (p + 1)) (seen_at rows p)) where
    all-proper : ProperIf (under rows p (p + 1))
    unfolding under
    all-proper = (hangs-parted (p + 1) (sites_before rows (p + 1)) _).proper p (omega arith)

    all-within : Within (under rows p (p + 1))
    unfolding under
    all-within = within-under ok (p + 1) (sites_before rows (p + 1)) p (omega arith) (omega arith)

    all_room : (c : ℕ) → Below rows p c → HasRoom (length types) at (length rows - (p + 1)) (under rows p (p + 1))
    unfolding seen_at
    all_room c d = room-under (length types) at (length rows - (p + 1)) (get_or rows p no_row).site (get_or rows p no_row).kind (sites_before rows p) (under rows p (p + 1)) (above-plain ok p c d) room

    -- a part u of what hangs under p
    module _ (u v : Option Tree) (A : Alike (beside u v) (under rows p (p + 1))) where
      part-proper : ProperIf u
      part-proper = (proper-parts u v (A.proper all-proper)).1.0

      part-within : Within u
      part-within = within-left u v (alike-within A all-within)

      part-sites : over sites_on u ≤ over sites_on (under rows p (p + 1))
      part-sites = omega (arith, A.sites, sites-beside u v)

      part-fits : (l : List Candidate) (len c : ℕ) → Below rows p c → length l ≡ len → Shows types u l → at + len ≤ work_room
      part-fits l len c d e s = omega (arith, all_room c d, shows-length types u l part-proper s, mul-le-mul_left (length types) part-sites)

    -- the first row below p
    module _ (c : ℕ) (first : get_or links p 0 ≡ c) (here : c < length rows) (w : List Candidate) (long : work_room ≤ length w) (own : ℕ) (O : Made types (seen_at rows c) w w at own) where
      N : Linked rows links p c (B.below p inside).left (B.below p inside).hung
      N = chain_next (rw first at (B.below p inside).chain) here

      pub first-wired : Wired w at own (wire_of (get_or rows c no_row))
      first-wired = own-wired ok c at (omega (arith, N.below.after)) here (room-child ok (length types) p c at N.below room) (wire_of (get_or rows c no_row)) refl w at own long O.fits O.shows

      pub first_made : (w₁ : List Candidate) (m : ℕ) → Gives w w₁ at m (wire_step (wire_of (get_or rows c no_row)) (part at (at + own) w)) → Siblings types rows links p c w w₁ at m
      first_made w₁ m G =
          let A : Alike (beside (hung_at rows c) N.rest) (under rows p (p + 1)) = rw N.rest_is at (all-below B p inside) in
          let S = shows-wired types (wire_of (get_or rows c no_row)) (seen_at rows c) _ O.shows in
          record {
            below = N.below;
            hung = hung_at rows c;
            some = wired-some (wire_of (get_or rows c no_row)) (seen_at rows c) (seen-some ok c here);
            left = N.less;
            few = omega (arith, N.less_is, (B.below p inside).few);
            rest = N.rest;
            chain = N.chain;
            alike = A;
            made = record { before = G.before ∙ O.before; shows = rw G.list S; fits = part-fits (hung_at rows c) N.rest A _ m c N.below G.count_is S };
          }

    module _ (c : ℕ) (w w₁ : List Candidate) (m : ℕ) (S : Siblings types rows links p c w w₁ at m) where
      -- none comes after it: all is made
      pub all_made : get_or links (next_at + c) 0 ≡ length rows → Made types (under rows p (p + 1)) w w₁ at m
      all_made e =
          let z : S.rest ≡ none = chain-none (rw e at S.chain) in
          let A : Alike S.hung (under rows p (p + 1)) = rw (z, beside_none S.hung) at S.alike in
          record { before = S.made.before; shows = alike-shows types S.hung (under rows p (p + 1)) _ all-proper A S.made.shows; fits = S.made.fits }

      -- the row s after it
      module _ (long₁ : work_room ≤ length w₁) (s : ℕ) (s-is : get_or links (next_at + c) 0 ≡ s) (more : s < length rows) where
        M : Linked rows links p s S.left S.rest
        M = chain_next (rw s-is at S.chain) more

        abbrev both-hung : Option Tree
        both-hung = beside (hung_at rows s) S.hung

        both-alike : Alike (beside both-hung M.rest) (under rows p (p + 1))
        both-alike = alike_then (alike-first (hung_at rows s) S.hung M.rest) (rw M.rest_is at S.alike)

        pub next-after : p < s
        next-after = M.below.after

        -- it is another row
        apart : ¬ (s ≡ c)
        apart e =
            let d = S.below in
            let one : Chain rows links p (length rows) s (suc S.left) (beside (hung_at rows c) S.rest) = rw e (next S.left S.rest d.after d.inside d.parent refl refl S.chain) in
            omega (arith, chain-one (omega arith) one (rw s-is at S.chain))

        few-made : m ≤ 1 + length types * over sites_on S.hung
        few-made = made-few ok S.hung w₁ at m long₁ S.made.fits (part-proper S.hung S.rest S.alike) S.made.shows

        -- the sites of both, and so their candidates
        both-sites : length types * over sites_on (seen_at rows s) + length types * over sites_on S.hung ≤ length types * over sites_on (under rows p (p + 1))
        both-sites =
            let e = besides (wire_of (get_or rows s no_row)) (seen_at rows s) S.hung in
            let f : over sites_on (seen_at rows s) + over sites_on S.hung ≤ over sites_on (under rows p (p + 1)) = omega (arith, e, part-sites both-hung M.rest both-alike) in
            omega (arith, mul-le-mul_left (length types) f, mul-add (length types) (over sites_on (seen_at rows s)) (over sites_on S.hung))

        pub next-room : HasRoom (length types) (at + m) (length rows - (s + 1)) (seen_at rows s)
        next-room = omega (arith, all_room s M.below, M.below.after, more, few-made, both-sites)

        module _ (w₂ : List Candidate) (long₂ : work_room ≤ length w₂) (own : ℕ) (O : Made types (seen_at rows s) w₁ w₂ (at + m) own) where
          few-own : own ≤ 1 + length types * over sites_on (seen_at rows s)
          few-own = made-few ok (seen_at rows s) w₂ (at + m) own long₂ O.fits (seen-proper ok s more) O.shows

          both-shown : Shows types both-hung (merge join_marks (wire_step (wire_of (get_or rows s no_row)) (part (at + m) (at + m + own) w₂)) (part at (at + m) w₂))
          both-shown = shows_beside types (wire_of (get_or rows s no_row)) (seen_at rows s) S.hung _ _ (seen-some ok s more) S.some (proper-parts (hung_at rows s) S.hung (part-proper both-hung M.rest both-alike)).0 O.shows (rw (part-part at (at + m) w₁ w₂ O.before) S.made.shows)

          pub next-hang : Hang w₂ at m own (wire_of (get_or rows s no_row))
          next-hang = record {
            first = made_some ok S.hung w₁ at m long₁ S.made.fits S.some S.made.shows;
            own = own-wired ok s at (omega (arith, M.below.after)) more (room-child ok (length types) p s at M.below room) (wire_of (get_or rows s no_row)) refl w₂ (at + m) own long₂ O.fits O.shows;
            kept = shows-any types (hung_at rows s) _ (wired-some (wire_of (get_or rows s no_row)) (seen_at rows s) (seen-some ok s more)) (shows-wired types (wire_of (get_or rows s no_row)) (seen_at rows s) _ O.shows);
            room = let f = apart in omega (arith, few-made, few-own, all_room s M.below, M.below.after, more, S.below.after, S.below.inside, both-sites, mul-le-mul ok.types_few all-within.few);
            fit = shows-fit types ok both-hung _ (part-within both-hung M.rest both-alike) both-shown;
          }

          pub next-made : (w₃ : List Candidate) (len : ℕ) → Gives w₂ w₃ at len (merge join_marks (wire_step (wire_of (get_or rows s no_row)) (part (at + m) (at + m + own) w₂)) (part at (at + m) w₂)) → Siblings types rows links p s w w₃ at len
          next-made w₃ len G = record {
            below = M.below;
            hung = both-hung;
            some = beside-some (hung_at rows s) S.hung (wired-some (wire_of (get_or rows s no_row)) (seen_at rows s) (seen-some ok s more));
            left = M.less;
            few = omega (arith, M.less_is, S.few);
            rest = M.rest;
            chain = M.chain;
            alike = both-alike;
            made = record { before = G.before ∙ part-less at (at + m) w₁ w₂ (omega arith) O.before ∙ S.made.before; shows = rw G.list both-shown; fits = part-fits both-hung M.rest both-alike _ len s M.below G.count_is both-shown };
          }

        -- one row less is left
        pub next-less : rows_left links (length rows) (length rows) (get_or links (next_at + s) 0) < rows_left links (length rows) (length rows) (get_or links (next_at + c) 0)
        next-less = omega (arith, chain_left (omega arith) (length rows) S.few S.chain, chain_left (omega arith) (length rows) (omega (arith, S.few, M.less_is)) M.chain, M.less_is)
