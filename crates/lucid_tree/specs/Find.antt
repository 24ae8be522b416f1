-- To which entry of an environment a name belongs: the innermost one that has it.
use Rattle.std.specs.Prelude.{◌≡◌, ℕ, List, Option, None}
use Rattle.lucid_tree.specs.Tree.{PlainTrees, PlainDefs}
use Rattle.lucid_tree.specs.Env.{Env, scope, args, absent, definition, param}

-- No entry of the first environment that stands in front of the second has the name: a search for it outwards comes to the second.
pub data Outwards (n : List ℕ) : Env → Env → Type 0 where
  stays : {env : Env} → Outwards n env env
  past_block : {ds : PlainDefs} {z : Option ℕ} {env f : Env} → definition n ds ≡ absent → Outwards n env f → Outwards n (scope ds z env) f
  past_call : {ns : List (List ℕ)} {ats : List ℕ} {es : PlainTrees} {caller env f : Env} → param n ns ≡ None → Outwards n env f
      → Outwards n (args ns ats es caller env) f
