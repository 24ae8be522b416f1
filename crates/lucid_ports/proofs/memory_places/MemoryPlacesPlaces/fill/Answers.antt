use Rattle.lucid_ports.proofs.Common.{◌≡◌, ◌<◌, ◌≤◌, ◌⊎◌, ◌+◌, ℕ, length, drop, IfSome, Contains, inr, refl, sym, ap, subst, ◌∙◌, arith, le_refl, slice_get_read, slice_get-set_same, slice_get-set_other, MemoryPlace, bytes_at, fail_at, memory_place}
use Rattle.lucid_ports.proofs.MemoryLemmas.{place_shown, piece_clauses, shows_piece}
use Rattle.lucid_ports.proofs.memory_places.MemoryPlacesPlaces.fill.Goals as goal

pub returns : goal.returns
returns c =
    let places = c.args.self.now.places in
    let files = c.args.self.now.files.items in
    let old = c.args.self.now.failures.items in
    let p = c.index.result.now in
    let left = drop p.mark.position (bytes_at files p.file) in
    let within : c.args.place < length places.items = omega (arith, places.ok.0) in
    let was = slice_get_read places.items _ c.args.place p refl within c.index.ensures in
    let q : MemoryPlace = record { file = p.file; mark = c.showing.result } in
    let is = slice_get-set_same places.items c.args.place q within in
    let kept = c.if-spend_failure.ensures.kept in
    let shown = c.shown_before-shown.ensures in
    let rest : c.rest_of.result.now ≡ left = cc (c.rest_of.ensures.value, c.position-from.ensures, c.deref-3.ensures.value) in
    let rest_left : c.rest_of-left.result.now ≡ left = cc (c.rest_of-left.ensures.value, c.position-from.ensures, c.deref.ensures.value) in
    let seen : c.deref-2.result.now ≡ old = c.deref-2.ensures.value ∙ kept in
    let told = subst (λ o. IfSome (memory_place files o).contents (λ k. c.rest_of.result.now ≡ k.left)) (sym was) rest in
    let none = c.if-spend_failure.ensures.none in
    let before = λ (q : ℕ) (past : c.position-position.result ≤ q) (fails : Contains old (fail_at c.args.place q)).
    shown.before q past (subst (λ l. Contains l (fail_at c.args.place q)) (sym seen) fails) in
    let whole = subst (λ n. (c.shown_before-shown.result ≡ n) ⊎ Contains old (fail_at c.args.place (c.position-position.result + c.shown_before-shown.result)))
    (ap length (rest_left ∙ sym rest))
    (subst (λ l. (c.shown_before-shown.result ≡ length c.rest_of-left.result.now)
    ⊎ Contains l (fail_at c.args.place (c.position-position.result + c.shown_before-shown.result))) seen shown.whole) in
    let clauses = piece_clauses _ c.args.place old c.spend_failure.new.failures.items _ c.shown_before-shown.result c.rest_of.result.now
    c.position-position.ensures told (omega (arith, shown.bound, ap length rest_left, ap length rest)) kept none before whole in
    let shows = place_shown files _ _ p q _ was is refl (c.showing.ensures.position ∙ c.position-from.ensures) (c.showing.ensures.shown ∙ sym clauses.long)
    c.showing.ensures.used in (
      (
        refl,
        λ _. tt,
        (
          record {
            others = record {
              names = λ _. refl;
              asked = refl;
              others = λ k other. ap (memory_place files) (slice_get-set_other places.items c.args.place k q other);
              faults = le_refl _;
            };
            reached = refl;
            shown = shows;
            refused = tt;
            failed = λ fails. cc;
            counts_no_fault = inr refl;
            counts_late = c.late_after-self.ensures;
          },
          record { piece = shows_piece _ _ _ _ _ _ clauses; faults = refl },
        ),
      ),
      record { front = clauses.front; end = clauses.end; after_borrow = tt },
    )
