-- What is refused, and as what: the refused examples of the paper, the refusals that need more than a text, and each rule of tables, as one
-- table of statements with one proof. Assumes nothing.
use Rattle.std.specs.Prelude.{◌≡◌, refl, false, ◌||◌, List, [], ◌∷◌, ◌++◌, map, ℕ, ◌^◌, ℤ, pos, negsuc, replicate, set}
use Rattle.std.proofs.Common.{sym, append-nil, append_assoc}
use mathlib.Core.Option.{Option, none, some, or_else}
use Prim.Native.String.{String}
use Rattle.rules.specs.declared.Cand.{Cand}
use Rattle.rules.specs.declared.Refusal.{Refusal}
use Rattle.rules.specs.declared.Refusal.TheVariants.{Form, Range, Room, Parent, Childless, Mark, Short, NoRow}
use Rattle.rules.specs.Lists.{written}
use Rattle.rules.specs.Entries.{Entry, type, driver, point, sink, beyond, types_of, rows_of, row_of, sites_of}
use Rattle.rules.specs.Text.{text_entries, lines_of, line_of, lettered, type_line, driver_line, point_line, sink_line, parted, number, more_digits, signed}
use Rattle.rules.specs.Tables.{Tables, short_tables, table_entries, counted, from, row_entry, row_by, is_zero, type_entry, type_table, row_table, due_table, filled}
use Rattle.rules.specs.Refusals.{number_of, place_of, refusal_of, first_refusal, line_refusal, last_refusal, misplaced, out_of_range, too_many, orphan, no_parent, childless, line_of_row}
use Rattle.rules.specs.Placements.{marks, mark_in, marks_from, mark_refusal, placement_refusal, row_of_site}
use Rattle.rules.specs.Promises.{slack_refusal, list_refusal, net_refusal, tabled, texted}
use Rattle.rules.specs.Areas.{Storage, Columns, columns, records, zeros, short_placement, Lent, short_lent}
use Rattle.laws.specs.Tabling.{tables-back}
use Rattle.laws.specs.Reading.{filled-long}
use Rattle.examples.specs.Texts.{bytes, entries}
use Rattle.examples.specs.Examples.{net_a, net_b}
use Rattle.examples.specs.Given.{blank, tables_in, counts_in}

-- ---- what is asked
-- of a text, line by line
abbrev pub refusal : String → Option Refusal
refusal s = refusal_of (entries s)

-- of check_net: tables, and how many types and rows are counted
abbrev pub checked : Tables → (types rows : ℕ) → Option Refusal
checked t types rows = net_refusal false (tabled t (record { types = types; rows = rows }))

-- of read_net, slack_of, plan_net and list_at, of net A in the tables lent
abbrev pub as_read : Tables → Option Refusal
as_read t = net_refusal (short_tables t) (texted (bytes net_a))

abbrev pub as_checked : Tables → Option Refusal
as_checked t = net_refusal false (tabled t (counts_in net_a))

abbrev pub as_timed : Tables → (placement : List ℕ) → Option Refusal
as_timed t placement = slack_refusal (tabled t (counts_in net_a)) placement

abbrev pub as_planned : {W : Type 0} → Storage W → Tables → (placement : List ℕ) → W → Option Refusal
as_planned s t placement work = net_refusal (short_placement placement || s.short work) (tabled t (counts_in net_a))

abbrev pub as_listed : {W : Type 0} → Storage W → Tables → (row : ℕ) → Lent → W → Option Refusal
as_listed s t row lent work = list_refusal (short_lent lent || s.short work) (tabled t (counts_in net_a)) row

-- areas of net A and then zeros, of so many words; a work area and an area for a list, of so many words
unfoldable pub areas : (types rows due : ℕ) → Tables
areas types rows due = filled (entries net_a) (record { types = replicate types 0; rows = replicate rows 0; due = replicate due (pos 0) })

unfoldable pub working : (loads times words : ℕ) → Columns
working loads times words = record { loads = replicate loads 0; times = replicate times (pos 0); words = replicate words 0 }

unfoldable pub running : ℕ → List Cand
running n = replicate n zeros

unfoldable pub listing : (loads times : ℕ) → Lent
listing loads times = record { loads = replicate loads 0; times = replicate times (pos 0) }

-- net A's tables with another word at a place of the rows' area, or another required time of a row
unfoldable pub with_word : (place word : ℕ) → Tables
with_word place word = record { types = (tables_in net_a).types; rows = set (tables_in net_a).rows place word; due = (tables_in net_a).due }

unfoldable pub with_due : (row : ℕ) (due : ℤ) → Tables
with_due row due = record { types = (tables_in net_a).types; rows = (tables_in net_a).rows; due = set (tables_in net_a).due row due }

-- a driver, and 255 sinks below it: as many rows as there may be
abbrev pub star : List Entry
star = driver 0 ∷ replicate 255 (sink 0 0 0 0 0 (pos 0))

-- one refusal of each number
abbrev pub all_refusals : List Refusal
all_refusals = Form 9 ∷ Range 9 ∷ Room 9 ∷ Parent 9 ∷ Childless 9 ∷ Mark 9 ∷ Short ∷ NoRow ∷ []

-- ---- the table
pub record Refused : Type 0 where
  -- texts, line by line: net A, which is read and taken, and the paper's refused ones
  pub read_a : entries net_a ≡ type 2 3 10 ∷ driver 20 ∷ point 0 4 5 1 ∷ sink 1 6 7 0 8 (pos 1000) ∷ []
  pub take_a : refusal net_a ≡ none
  -- empty text, 1 at line 1
  pub empty : refusal "" ≡ some (Form 1)
  -- `D 5` alone, 5 at line 1
  pub alone : refusal "D\t5\n" ≡ some (Childless 1)
  -- a pin of 100,001, 2, while 100,000 is taken
  pub pin_over : refusal "D\t5\nS\t0\t0\t0\t0\t100001\t0\n" ≡ some (Range 2)
  pub pin_most : refusal "D\t5\nS\t0\t0\t0\t0\t100000\t0\n" ≡ none
  -- `007`, 1
  pub zeros : refusal "D\t007\nS\t0\t0\t0\t0\t1\t0\n" ≡ some (Form 1)
  -- a row whose parent is itself, 4
  pub itself : refusal "D\t5\nS\t1\t0\t0\t0\t1\t0\n" ≡ some (Parent 2)
  -- parent 300 and capacitance 100,001 together, 2
  pub both_over : refusal "D\t5\nS\t300\t0\t100001\t0\t1\t0\n" ≡ some (Range 2)
  -- a fifth type with resistance 100,001, 2
  pub fifth_over : refusal "T\t1\t1\t1\nT\t1\t1\t1\nT\t1\t1\t1\nT\t1\t1\t1\nT\t1\t100001\t1\nD\t5\n" ≡ some (Range 5)
  pub fifth : refusal "T\t1\t1\t1\nT\t1\t1\t1\nT\t1\t1\t1\nT\t1\t1\t1\nT\t1\t1\t1\nD\t5\n" ≡ some (Room 5)
  -- the last line not ended; no driver; a row before the driver; a second driver; a minus where none may be; `-0`
  pub unended : refusal "D\t5\nS\t0\t0\t0\t0\t1\t0" ≡ some (Form 2)
  pub no_driver : refusal "T\t1\t1\t1\n" ≡ some (Form 2)
  pub row_first : refusal "S\t300\t0\t0\t0\t1\t0\nD\t5\n" ≡ some (Form 1)
  pub two_drivers : refusal "D\t5\nD\t100001\n" ≡ some (Form 2)
  pub minus : refusal "D\t-5\nS\t0\t0\t0\t0\t1\t0\n" ≡ some (Form 1)
  pub minus_zero : refusal "D\t5\nS\t0\t0\t0\t0\t1\t-0\n" ≡ some (Form 2)
  -- a sink as parent; a point with nothing below it
  pub under_sink : refusal "D\t5\nS\t0\t0\t0\t0\t1\t-1\nS\t1\t0\t0\t0\t1\t0\n" ≡ some (Parent 3)
  pub childless_point : refusal "D\t5\nW\t0\t0\t0\t0\nW\t0\t0\t0\t0\nS\t1\t0\t0\t0\t1\t0\n" ≡ some (Childless 3)
  -- the first of two such
  pub childless_first : refusal "D\t5\nW\t0\t0\t0\t0\nW\t0\t0\t0\t0\n" ≡ some (Childless 2)
  -- 6: a type that the net hasn't, at the line of the site's row; a site that it hasn't, at 0; the lowest site first
  pub no_type : as_timed (tables_in net_a) (2 ∷ 0 ∷ 0 ∷ 0 ∷ []) ≡ some (Mark 3)
  pub no_site : as_timed (tables_in net_a) (16 ∷ 0 ∷ 0 ∷ 0 ∷ []) ≡ some (Mark 0)
  pub last_mark : as_timed (tables_in net_a) (0 ∷ 0 ∷ 0 ∷ 2 ^ 60 ∷ []) ≡ some (Mark 0)
  pub type_first : as_timed (tables_in net_a) (18 ∷ 0 ∷ 0 ∷ 0 ∷ []) ≡ some (Mark 3)
  pub second_site : slack_refusal (tabled (tables_in net_b) (counts_in net_b)) (33 ∷ 0 ∷ 0 ∷ 0 ∷ []) ≡ some (Mark 5)
  pub lowest_site : slack_refusal (tabled (tables_in net_b) (counts_in net_b)) (34 ∷ 0 ∷ 0 ∷ 0 ∷ []) ≡ some (Mark 4)
  -- a mark that there may be; and of a longer area the part beyond is not read
  pub marked : as_timed (tables_in net_a) (1 ∷ 0 ∷ 0 ∷ 0 ∷ 16 ∷ []) ≡ none
  -- 7: an area one word short, of each entry; exactly its room is long enough
  pub read_room : as_read (areas 12 1536 256) ≡ none
  pub read_types : as_read (areas 11 1536 256) ≡ some Short
  pub read_rows : as_read (areas 12 1535 256) ≡ some Short
  pub read_due : as_read (areas 12 1536 255) ≡ some Short
  pub check_room : as_checked (areas 12 1536 256) ≡ none
  pub check_types : as_checked (areas 11 1536 256) ≡ some Short
  pub check_rows : as_checked (areas 12 1535 256) ≡ some Short
  pub check_due : as_checked (areas 12 1536 255) ≡ some Short
  pub slack_room : as_timed (areas 12 1536 256) (replicate 4 0) ≡ none
  pub slack_types : as_timed (areas 11 1536 256) (replicate 4 0) ≡ some Short
  pub slack_rows : as_timed (areas 12 1535 256) (replicate 4 0) ≡ some Short
  pub slack_due : as_timed (areas 12 1536 255) (replicate 4 0) ≡ some Short
  pub slack_placement : as_timed (areas 12 1536 256) (replicate 3 0) ≡ some Short
  pub plan_room : as_planned columns (areas 12 1536 256) (replicate 4 0) (working 768 768 3072) ≡ none
  pub plan_types : as_planned columns (areas 11 1536 256) (replicate 4 0) (working 768 768 3072) ≡ some Short
  pub plan_rows : as_planned columns (areas 12 1535 256) (replicate 4 0) (working 768 768 3072) ≡ some Short
  pub plan_due : as_planned columns (areas 12 1536 255) (replicate 4 0) (working 768 768 3072) ≡ some Short
  pub plan_placement : as_planned columns (areas 12 1536 256) (replicate 3 0) (working 768 768 3072) ≡ some Short
  pub plan_loads : as_planned columns (areas 12 1536 256) (replicate 4 0) (working 767 768 3072) ≡ some Short
  pub plan_times : as_planned columns (areas 12 1536 256) (replicate 4 0) (working 768 767 3072) ≡ some Short
  pub plan_words : as_planned columns (areas 12 1536 256) (replicate 4 0) (working 768 768 3071) ≡ some Short
  pub plan_records : as_planned records (areas 12 1536 256) (replicate 4 0) (running 768) ≡ none
  pub plan_record : as_planned records (areas 12 1536 256) (replicate 4 0) (running 767) ≡ some Short
  pub list_at_room : as_listed columns (areas 12 1536 256) 0 (listing 257 257) (working 768 768 3072) ≡ none
  pub list_types : as_listed columns (areas 11 1536 256) 0 (listing 257 257) (working 768 768 3072) ≡ some Short
  pub list_rows : as_listed columns (areas 12 1535 256) 0 (listing 257 257) (working 768 768 3072) ≡ some Short
  pub list_due : as_listed columns (areas 12 1536 255) 0 (listing 257 257) (working 768 768 3072) ≡ some Short
  pub list_loads : as_listed columns (areas 12 1536 256) 0 (listing 256 257) (working 768 768 3072) ≡ some Short
  pub list_times : as_listed columns (areas 12 1536 256) 0 (listing 257 256) (working 768 768 3072) ≡ some Short
  pub list_work : as_listed columns (areas 12 1536 256) 0 (listing 257 257) (working 768 768 3071) ≡ some Short
  pub list_records : as_listed records (areas 12 1536 256) 0 (listing 257 257) (running 768) ≡ none
  pub list_record : as_listed records (areas 12 1536 256) 0 (listing 257 257) (running 767) ≡ some Short
  -- 7, then the length of the text, then line by line: 32,769 bytes are too many, 32,768 are not
  pub short_and_long : net_refusal (short_tables (areas 11 1536 256)) (texted (replicate 32_769 0)) ≡ some Short
  pub too_long : net_refusal (short_tables blank) (texted (replicate 32_769 0)) ≡ some (Room 0)
  pub longest : net_refusal (short_tables blank) (texted (replicate 32_768 0)) ≡ some (Form 1)
  -- 8: a row equal to the count; the last row is taken; 5 comes before 8
  pub no_row : as_listed columns (tables_in net_a) 3 (listing 257 257) (working 768 768 3072) ≡ some NoRow
  pub last_row : as_listed columns (tables_in net_a) 2 (listing 257 257) (working 768 768 3072) ≡ none
  pub childless_before : list_refusal false (tabled (tables_in net_a) (record { types = 1; rows = 1 })) 1 ≡ some (Childless 2)
  -- tables. A field that its line would lack: of the driver
  pub driver_parent : as_checked (with_word 1 1) ≡ some (Form 2)
  pub driver_capacitance : as_checked (with_word 3 1) ≡ some (Form 2)
  pub driver_site : as_checked (with_word 4 1) ≡ some (Form 2)
  pub driver_pin : as_checked (with_word 5 1) ≡ some (Form 2)
  pub driver_due : as_checked (with_due 0 (negsuc 0)) ≡ some (Form 2)
  -- and of a point
  pub point_pin : as_checked (with_word 11 1) ≡ some (Form 3)
  pub point_due : as_checked (with_due 1 (pos 1)) ≡ some (Form 3)
  -- a kind above 2
  pub kind_above : as_checked (with_word 12 3) ≡ some (Form 4)
  -- no driver: no row at all, or another row first
  pub table_without : checked (tables_in net_a) 1 0 ≡ some (Form 2)
  pub point_before : as_checked (with_word 0 1) ≡ some (Form 2)
  pub sink_before : as_checked (with_word 0 2) ≡ some (Form 2)
  -- a driver second: the zeros past net A's rows, counted
  pub driver_second : checked (tables_in net_a) 1 4 ≡ some (Form 5)
  -- a number out of its range, and a parent that is not earlier
  pub parent_out : as_checked (with_word 13 256) ≡ some (Range 4)
  pub site_out : as_checked (with_word 10 2) ≡ some (Range 3)
  pub due_out : as_checked (with_due 2 (pos 1_000_000_000_001)) ≡ some (Range 4)
  pub parent_itself : as_checked (with_word 13 2) ≡ some (Parent 4)
  -- a fifth type counted, and a 257th row: 3 at its line, unread
  pub four_types : checked (tables_in net_a) 4 3 ≡ none
  pub fifth_type : checked (tables_in net_a) 5 3 ≡ some (Room 5)
  pub all_rows : checked (filled star blank) 0 256 ≡ none
  pub one_row_more : checked (filled star blank) 0 257 ≡ some (Room 257)
  -- the numbers and places that the paper gives them
  pub numbers : map number_of all_refusals ≡ 1 ∷ 2 ∷ 3 ∷ 4 ∷ 5 ∷ 6 ∷ 7 ∷ 8 ∷ []
  pub places : map place_of all_refusals ≡ 9 ∷ 9 ∷ 9 ∷ 9 ∷ 9 ∷ 9 ∷ 0 ∷ 0 ∷ []

-- a 257th row is unread: after the 256 that are in the tables it is counted, and that is all
past-rows : (t : Tables) (types : ℕ) → table_entries t (record { types = types; rows = 257 }) ≡ table_entries t (record { types = types; rows = 256 }) ++ (beyond ∷ [])
unfolding table_entries counted
past-rows t types = rw (append-nil (from (row_entry t) 0 256)) (sym (append_assoc (counted (type_entry t) 4 types) (from (row_entry t) 0 256) (beyond ∷ [])))

star-taken : refusal_of star ≡ none
unfolding types_of rows_of row_of sites_of refusal_of first_refusal line_refusal last_refusal misplaced out_of_range too_many orphan no_parent childless line_of_row mathlib.Core.Option.or_else
star-taken = refl

star-past : refusal_of (star ++ (beyond ∷ [])) ≡ some (Room 257)
unfolding types_of rows_of row_of sites_of refusal_of first_refusal line_refusal last_refusal misplaced out_of_range too_many orphan no_parent childless line_of_row mathlib.Core.Option.or_else
star-past = refl

star-back : table_entries (filled star blank) (record { types = 0; rows = 256 }) ≡ star
unfolding types_of rows_of
star-back = tables-back star blank star-taken

star-long : short_tables (filled star blank) ≡ false
unfolding short_tables blank
star-long = filled-long star blank refl

star-256 : checked (filled star blank) 0 256 ≡ none
unfolding net_refusal mathlib.Core.Option.or_else refusal_of
star-256 = rw (star-long, star-back) star-taken

star-257 : checked (filled star blank) 0 257 ≡ some (Room 257)
unfolding net_refusal mathlib.Core.Option.or_else refusal_of
star-257 = rw (star-long, past-rows (filled star blank) 0, star-back) star-past

-- all of it, computed from the definitions
pub refused : Refused
unfolding tables_in counts_in blank filled written type_table row_table due_table table_entries counted from row_entry row_by is_zero type_entry net_refusal short_tables bytes text_entries lines_of line_of lettered type_line driver_line point_line sink_line parted number more_digits signed types_of rows_of row_of refusal_of first_refusal line_refusal last_refusal misplaced out_of_range too_many sites_of orphan no_parent childless line_of_row slack_refusal list_refusal placement_refusal marks_from mark_refusal marks mark_in row_of_site columns records short_lent areas working running listing with_word with_due or_else
refused = record {
  read_a = refl;
  take_a = refl;
  empty = refl;
  alone = refl;
  pin_over = refl;
  pin_most = refl;
  zeros = refl;
  itself = refl;
  both_over = refl;
  fifth_over = refl;
  fifth = refl;
  unended = refl;
  no_driver = refl;
  row_first = refl;
  two_drivers = refl;
  minus = refl;
  minus_zero = refl;
  under_sink = refl;
  childless_point = refl;
  childless_first = refl;
  no_type = refl;
  no_site = refl;
  last_mark = refl;
  type_first = refl;
  second_site = refl;
  lowest_site = refl;
  marked = refl;
  read_room = refl;
  read_types = refl;
  read_rows = refl;
  read_due = refl;
  check_room = refl;
  check_types = refl;
  check_rows = refl;
  check_due = refl;
  slack_room = refl;
  slack_types = refl;
  slack_rows = refl;
  slack_due = refl;
  slack_placement = refl;
  plan_room = refl;
  plan_types = refl;
  plan_rows = refl;
  plan_due = refl;
  plan_placement = refl;
  plan_loads = refl;
  plan_times = refl;
  plan_words = refl;
  plan_records = refl;
  plan_record = refl;
  list_at_room = refl;
  list_types = refl;
  list_rows = refl;
  list_due = refl;
  list_loads = refl;
  list_times = refl;
  list_work = refl;
  list_records = refl;
  list_record = refl;
  short_and_long = refl;
  too_long = refl;
  longest = refl;
  no_row = refl;
  last_row = refl;
  childless_before = refl;
  driver_parent = refl;
  driver_capacitance = refl;
  driver_site = refl;
  driver_pin = refl;
  driver_due = refl;
  point_pin = refl;
  point_due = refl;
  kind_above = refl;
  table_without = refl;
  point_before = refl;
  sink_before = refl;
  driver_second = refl;
  parent_out = refl;
  site_out = refl;
  due_out = refl;
  parent_itself = refl;
  four_types = refl;
  fifth_type = refl;
  all_rows = star-256;
  one_row_more = star-257;
  numbers = refl;
  places = refl;
}
