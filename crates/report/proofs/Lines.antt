-- Every report is whole lines.
-- Assumes nothing.
use Prim.Native.Nat.{ℕ, zero, suc, ◌+◌}
use mathlib.Core.Path.{◌≡◌, refl}
use mathlib.Core.Bool.{true, not}
use mathlib.Core.List.{List, [], ◌++◌, append_assoc}
use mathlib.Core.Logic.{◌⊎◌, inl, inr}
use lib.Dec.{T, eqb}
use Rattle.std.proofs.lemmas.List.Folds.{list_all-append}
use Rattle.std.proofs.lemmas.List.Sums.{list_all-from_AllPass}
use Rattle.std.proofs.lemmas.List.Elements.{All-from_get_or}
use Rattle.std.proofs.lemmas.Bool.Decides.{nat_tests}
use native.Mathlib.Nat.{zero-add, suc-add}
use native.Mathlib.Numerals.{add-one}
use native.Mathlib.Omega.{arith}
use lib.ListN.{get_or, replicate, length-replicate}
use Rattle.curve.specs.declared.RoomMark.{RoomMark}
use Rattle.curve.specs.declared.RoomMark.TheVariants.{Low, High}
use Rattle.contrast.specs.declared.Verdict.{Verdict}
use Rattle.contrast.specs.declared.Verdict.TheVariants.{Pass, Fail}
use Rattle.std.specs.Prelude.{Option, Some, None}
use lib.Chars.{codes}
use Rattle.report.specs.Text.{decimal}
use Rattle.report.specs.Report.{refused_line, range_line, room_line, even_line, check_line, row, rows, lines, report_of, ReportOutcome, by_nearest, by_even, by_check, unmeasured, passes, fails}
use Rattle.report.specs.Facts.{has_no_feed, Lines}
use Rattle.report.proofs.Decimal.{decimal_rule}
use Rattle.report.proofs.Reporting.{some_report}

-- ---- bytes without a line feed

number_no_feed : (n : ℕ) → has_no_feed (decimal n) ≡ true
unfolding has_no_feed
number_no_feed n =
    list_all-from_AllPass _ (decimal n)
    (All-from_get_or (λ (b : ℕ). not (eqb b 10) ≡ true) (decimal n) 0
    (λ i l. grind (arith, nat_tests, (decimal_rule n).digits.low i)))

-- ---- lines, put together

one_line : (xs : List ℕ) → T (has_no_feed xs) → Lines 1 (xs ++ codes "\n")
unfolding Lines
one_line xs h = record { line = xs; rest = []; no_feed = h; is = refl; after = refl }

together : (m n : ℕ) (xs ys : List ℕ) → Lines m xs → Lines n ys → Lines (m + n) (xs ++ ys)
unfolding Lines
together zero n xs ys e l = rw (e, zero-add) l
together (suc m) n xs ys f l =
    rw suc-add
    (record {
      line = f.line;
      rest = f.rest ++ ys;
      no_feed = f.no_feed;
      is = rw (f.is, append_assoc);
      after = together m n f.rest ys f.after l;
    })

-- ---- those of a report

refused : (n : ℕ) → Lines 1 (refused_line n)
unfolding has_no_feed
refused n = one_line (codes "refused " ++ decimal n) (simp (list_all-append, number_no_feed) tt)

range : (jlo jhi n : ℕ) → Lines 1 (range_line jlo jhi n)
unfolding has_no_feed
range jlo jhi n =
    one_line (codes "range " ++ decimal jlo ++ codes " " ++ decimal jhi ++ codes " " ++ decimal n) (simp (list_all-append, number_no_feed) tt)

room : (mark : RoomMark) → Lines 1 (room_line mark)
unfolding has_no_feed
room Low = one_line (codes "room low") tt
room High = one_line (codes "room high") tt

even_line_lem : (worst : ℕ) → Lines 1 (even_line worst)
unfolding has_no_feed
even_line_lem worst = one_line (codes "even " ++ decimal worst) (simp (list_all-append, number_no_feed) tt)

check_line_lem : (check : Option Verdict) → Lines 1 (check_line check)
unfolding has_no_feed
check_line_lem None = one_line (codes "check none") tt
check_line_lem (Some Pass) = one_line (codes "check pass") tt
check_line_lem (Some Fail) = one_line (codes "check fail") tt

one_row : (p nearest even : ℕ) → Lines 1 (row p nearest even)
unfolding has_no_feed
one_row p nearest even = one_line (decimal p ++ codes " " ++ decimal nearest ++ codes " " ++ decimal even) (simp (list_all-append, number_no_feed) tt)

all_rows : (nearest even : List ℕ) (n : ℕ) → Lines n (rows nearest even n)
unfolding Lines rows
all_rows nearest even zero = refl
all_rows nearest even (suc n) =
    rw add-one at (together n 1 _ _ (all_rows nearest even n) (one_row n (get_or nearest n 0) (get_or even n 0)))

all_lines : (jlo jhi n : ℕ) (mark : RoomMark) (worst : ℕ) (check : Option Verdict) (nearest even : List ℕ) → Lines 260 (lines jlo jhi n mark worst check nearest even)
all_lines jlo jhi n mark worst check nearest even =
    together
    4
    256
    _
    _
    (together 3 1 _ _ (together 2 1 _ _ (together 1 1 _ _ (range jlo jhi n) (room mark)) (even_line_lem worst)) (check_line_lem check))
    (all_rows nearest even 256)

lines_by : {bytes work report : List ℕ} → ReportOutcome bytes work report → Lines 1 report ⊎ Lines 260 report
lines_by (by_nearest o) = inl (refused _)
lines_by (by_even o p) = inl (refused _)
lines_by (by_check t q) = inl (refused _)
lines_by (unmeasured {nearest = n} {even = e} t q) = inr (all_lines _ _ _ _ _ None n e)
lines_by (passes {nearest = n} {even = e} t q) = inr (all_lines _ _ _ _ _ (Some Pass) n e)
lines_by (fails {nearest = n} {even = e} t q) = inr (all_lines _ _ _ _ _ (Some Fail) n e)

-- the report asks of the work its length alone, so words of zero stand for any
pub whole_lines : (bytes : List ℕ) (words : ℕ) → Lines 1 (report_of bytes words) ⊎ Lines 260 (report_of bytes words)
whole_lines bytes words = rw length-replicate at (lines_by (some_report bytes (replicate words 0)))
