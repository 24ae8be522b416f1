use Rattle.lucid_compile.proofs.Common.{◌≡◌, ℕ, length, Option, nat_eq, map, sym, subst, arith, lookup, In, AllDiffer, Mark, key_at, AreMarked, KeyLists}
use Rattle.lucid_compile.specs.Keys.{key_lists}
use Rattle.lucid_compile.proofs.Marking.{front-differs, rest-differs, marks-stay}
use Rattle.lucid_compile.proofs.numbering.Numbering.number_all.Goals as goal

pub mark_all-requires-clause-differ : goal.mark_all-requires-clause-differ
mark_all-requires-clause-differ c = subst (λ l. AllDiffer (map key_at l)) (sym c.deref.ensures.value)
    (front-differs (key_lists c.args.keys.now).names (key_lists c.args.keys.now).calls c.requires.names)

pub mark_all-requires-2-clause-differ : goal.mark_all-requires-2-clause-differ
mark_all-requires-2-clause-differ c = subst (λ l. AllDiffer (map key_at l)) (sym c.deref-2.ensures.value)
    (rest-differs (key_lists c.args.keys.now).names (key_lists c.args.keys.now).calls c.requires.names)

pub returns : goal.returns
returns c =
    let l : KeyLists = key_lists c.args.keys.now in
    let f : ℕ → Option Mark = λ at. lookup (nat_eq at) c.mark_all.new.marks.entries in
    let g : ℕ → Option Mark = λ at. lookup (nat_eq at) c.mark_all-2.new.marks.entries in
    let count : c.len.result ≡ length l.names = omega arith in
    record {
      names = marks-stay f g 0 l.names l.calls c.requires.names (subst (AreMarked f 0) c.deref.ensures.value c.in_ok-mark_all.ensures.marked)
          (subst (λ ks. (at : ℕ) → (In at (map key_at ks) → ⊥) → g at ≡ f at) c.deref-2.ensures.value c.in_ok-mark_all-2.ensures.others);
      calls = subst (λ n. AreMarked g n l.calls) count (subst (AreMarked g c.len.result) c.deref-2.ensures.value c.in_ok-mark_all-2.ensures.marked);
      functions = subst (AreMarked (λ at. lookup (nat_eq at) c.mark_all-3.new.marks.entries) 0) c.deref-3.ensures.value c.in_ok-mark_all-3.ensures.marked;
      places = subst (AreMarked (λ at. lookup (nat_eq at) c.mark_all-4.new.marks.entries) 0) c.deref-4.ensures.value c.in_ok-mark_all-4.ensures.marked;
    }
