-- The steps that are told of a way: the judgments of names and calls on it.
use Rattle.std.specs.Prelude.{◌≡◌, ℕ, ◌-◌, ◌≤◌, nat_le, Bool, is_some, if◌then◌else◌, List, [], ◌++◌, length, map, take, drop, filter, codes, decimal, Option, Some, None, slice_get}
use Rattle.std.specs.List.{flat_map}
use Rattle.lucid_tree.specs.Tree.{PlainTree}
use Rattle.lucid_scan.specs.Refusals.{most_source_bytes}
use Rattle.lucid_equations.specs.declared.table.Table.{Table}
use Rattle.lucid_compile.specs.Origins.{places_of, origins_of}
use Rattle.lucid_cert_rules.specs.Certificates.{PlainJudgment, plain_judgment}
use Rattle.lucid_cert_rules.specs.Cells.{asked_at}
use Rattle.lucid_explain_run.specs.Pieces.{piece_of}
use Rattle.lucid_explain_errors.specs.declared.traced.Traced.{Traced}
use Rattle.lucid_explain_errors.specs.declared.inputs.Input.{Input}
use Rattle.lucid_explain_errors.specs.declared.steps.Sight.{Sight}
use Rattle.lucid_explain_errors.specs.Texts.{called_if, point_text, traced_text}

-- What is told: of a source in a file, which has this tree, of the judgments of a certificate, and of inputs.
pub record Told : Type 0 where
  pub file : List ℕ
  pub source : List ℕ
  pub tree : PlainTree
  pub judgments : List PlainJudgment
  pub inputs : List Input
  pub traced : Traced

abbrev pub plain_sight : Sight → Told
plain_sight s = record { file = s.file.now; source = s.source.now; tree = s.tree.now; judgments = map plain_judgment s.judgments.now; inputs = s.inputs.now; traced = s.traced }

-- The origins are the tree's, and the source isn't too long.
pub record FitsTree (s : Sight) : Type 0 where
  pub origins : places_of s.origins.now ≡ origins_of s.tree.now
  pub short : length s.source.now ≤ most_source_bytes

-- the judgments of names and calls among some
abbrev pub is_named : Table → List PlainJudgment → (number : ℕ) → Bool
is_named T js i = is_some (asked_at T js i)

abbrev pub named : Table → List PlainJudgment → List ℕ → List ℕ
named T js is = filter (is_named T js) is

-- a step: what is called so in the source has the value at its point
abbrev pub step_text : Told → Option PlainJudgment → List ℕ
step_text t None = []
step_text t (Some j) = called_if (piece_of t.tree j.node) ++ (point_text (codes " at time ") j.time j.space ++ traced_text t.traced)

abbrev pub step_at : Told → (number : ℕ) → List ℕ
step_at t i = step_text t (slice_get t.judgments i)

-- how many steps are left out
abbrev pub left_out_text : ℕ → List ℕ
left_out_text n = codes ".. " ++ (decimal n ++ codes " more ..\n")

-- At most six steps are told: of more, the first two and the last four.
abbrev pub steps_text : Told → List ℕ → List ℕ
steps_text t is =
    if nat_le (length is) 6 then flat_map (step_at t) is
    else flat_map (step_at t) (take 2 is) ++ (left_out_text (length is - 6) ++ flat_map (step_at t) (drop (length is - 4) is))
