-- The keys of a resolved tree differ, those of each kind.
use Rattle.lucid_compile.proofs.Common.{◌≡◌, ◌++◌, map, IsTrue, sym, ap, ◌∙◌, subst, arith, map-append, PlainTree, AllDiffer, places, IsWellMade, times, once-differ, differ-once, times-append, key_at, stand_key, call_key, place_key, key_of_function, KeyLists, keys_of, Log, no_log, added}
use Rattle.lucid_scope.specs.Sites.{sites as name_sites}
use Rattle.lucid_compile.specs.Static.{outermost}
use Rattle.std.proofs.lemmas.Simd.{map-map}
use Rattle.lucid_compile.proofs.Passing.{calls_pass_actuals, NoFaults, passes}
use Rattle.lucid_compile.proofs.Logs.{names_at, calls_at, sites_at, functions_at, names-times, functions-times, sites-times, own-first}

module _ (e : PlainTree) (made : IsWellMade e) where
  abbrev z : Log
  z = added outermost e no_log

  pub names-apart : AllDiffer (names_at z ++ calls_at z)
  names-apart =
      once-differ (names_at z ++ calls_at z)
      (λ x. omega (arith, times-append x (names_at z) (calls_at z), names-times x outermost e no_log, differ-once (places e) made.placed x))

  names-differ : AllDiffer (map key_at (map stand_key z.names ++ map call_key z.calls))
  names-differ =
      let same : map key_at (map stand_key z.names ++ map call_key z.calls) ≡ names_at z ++ calls_at z =
      map-append key_at (map stand_key z.names) (map call_key z.calls) ∙ (λ j. map-map key_at stand_key z.names j ++ map-map key_at call_key z.calls j) in
      subst AllDiffer (sym same) names-apart

  functions-differ : AllDiffer (map key_at (map key_of_function z.functions))
  functions-differ =
      subst AllDiffer (sym (map-map key_at key_of_function z.functions))
      (once-differ (functions_at z) (λ x. omega (arith, functions-times x outermost e no_log, differ-once (places e) made.placed x)))

  pub sites-apart : NoFaults (name_sites outermost e) → AllDiffer (sites_at z)
  sites-apart n =
      let h : IsTrue (calls_pass_actuals e) = passes outermost e n tt made.shaped in
      once-differ (sites_at z) (λ x. omega (arith, sites-times x outermost e no_log h, ap (times x) (own-first e), differ-once (places e) made.placed x))

  places-differ : NoFaults (name_sites outermost e) → AllDiffer (map key_at (map place_key z.calls))
  places-differ n = subst AllDiffer (sym (map-map key_at place_key z.calls)) (sites-apart n)

-- keys that differ, those of each kind
pub record DifferingKeys (l : KeyLists) : Type 0 where
  pub names : AllDiffer (map key_at (l.names ++ l.calls))
  pub places : AllDiffer (map key_at l.places)
  pub functions : AllDiffer (map key_at l.functions)

pub keys-differ : (e : PlainTree) (l : KeyLists) → IsWellMade e → NoFaults (name_sites outermost e) → l ≡ keys_of (added outermost e no_log)
    → DifferingKeys l
keys-differ e l made n same =
    subst DifferingKeys (sym same) (record { names = names-differ e made; places = places-differ e made n; functions = functions-differ e made })
