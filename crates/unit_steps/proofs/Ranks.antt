-- Less is left.
use Rattle.std.proofs.Common.{◌≡◌, ℕ, ◌+◌, ◌-◌, ◌*◌, ◌^◌, ◌<◌, ◌≤◌, List, [], ◌∷◌, drop, length, ap, arith, length-drop}
use Rattle.std.specs.List.{AllByRecursion}
use Rattle.scan_model.specs.declared.token.Line.{Line}
use Rattle.scan_model.specs.WholeFile.{entered_limit}
use Rattle.unit_steps.specs.Stack.{Frame}
use Rattle.unit_steps.specs.Work.{Work, IsMeasured, rank, lines_left}

-- ## By one of the four numbers

-- the first number decides where the second is below the base
pub digits_fall : (a b c d : ℕ) → b < 2 ^ 64 → a < c → a * 2 ^ 64 + b < c * 2 ^ 64 + d
digits_fall a b c d below less = omega (arith, below, less)

pub candidates_fall : (w v : Work) → w.files ≡ v.files → w.lines ≡ v.lines → w.tests ≡ v.tests → w.candidates < v.candidates → rank w < rank v
candidates_fall w v files lines tests less = omega (arith, files, lines, tests, less)

pub tests_fall : (w v : Work) → IsMeasured w → w.files ≡ v.files → w.lines ≡ v.lines → w.tests < v.tests → rank w < rank v
tests_fall w v m files lines less = omega (arith, files, lines, less, m.candidates)

pub lines_fall : (w v : Work) → IsMeasured w → w.files ≡ v.files → w.lines < v.lines → rank w < rank v
lines_fall w v m files less =
    digits_fall _ w.candidates _ v.candidates m.candidates (digits_fall _ w.tests _ v.tests m.tests (omega (arith, files, less)))

pub files_fall : (w v : Work) → IsMeasured w → w.files < v.files → rank w < rank v
files_fall w v m less =
    digits_fall _ w.candidates _ v.candidates m.candidates (digits_fall _ w.tests _ v.tests m.tests (digits_fall w.files w.lines v.files v.lines m.lines less))

-- ## What a step leaves

-- a file that is entered
pub entering_falls : (entered : ℕ) → entered < entered_limit → entered_limit - (entered + 1) < entered_limit - entered
entering_falls entered few = omega (arith, few)

-- a jump forward
pub jump_falls : (f : Frame) (fs : List Frame) (ls : List Line) (k j left : ℕ) → f.rest ≡ drop (k + 1) ls → k < j → lines_left (record f { rest = drop j ls } ∷ fs) + left ≤ lines_left (f ∷ fs) + left
jump_falls f fs ls k j left rest behind =
    let all = ap length rest in
    let a = length-drop (k + 1) ls in
    let b = length-drop j ls in
    omega (arith, all, a, b, behind)

-- ## How much there is at most

-- the lines of a file are fewer than 2 ^ 32
pub few_lines : (fs : List Frame) → AllByRecursion (λ f. length f.rest < 2 ^ 32) fs → lines_left fs ≤ length fs * 2 ^ 32
few_lines [] h = omega arith
few_lines (f ∷ fs) h = let rest = few_lines fs h.1 in omega (arith, h.0, rest)

-- the stack is 201 files deep at most
pub is_measured : (w : Work) (fs : List Frame) (left : ℕ) → w.lines ≡ lines_left fs + left → AllByRecursion (λ f. length f.rest < 2 ^ 32) fs → length fs ≤ 201 → left ≤ 33554433 →
    w.tests < 2 ^ 64 → w.candidates < 2 ^ 64 → IsMeasured w
is_measured w fs left lines files deep few tests candidates = record {
  lines = let most = few_lines fs files in omega (arith, lines, most, deep, few);
  tests = tests;
  candidates = candidates;
}
