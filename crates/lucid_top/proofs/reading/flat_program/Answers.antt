use Rattle.lucid_top.proofs.Common.{◌+◌, List, ℕ, subst, IfOk-weaker, IfErr-weaker, err_from_is_err_and, table_of, plain_source, IsRefusalOf, SpellsTable, RefusesFlat, FlatBySource, IsSourceStop, most_flat_bytes}
use Rattle.lucid_top.proofs.Sources.{flat_by, flat_stop, read_stops}
use Rattle.lucid_top.proofs.Doing.{has_read, has_stopped}
use Rattle.lucid_top.proofs.reading.flat_program.Goals as goal

pub returns-in_err-source-clause-stopped : goal.returns-in_err-source-clause-stopped
returns-in_err-source-clause-stopped g c =
    let p = err_from_is_err_and c.from_residual.result c.from_residual.ensures.1 in
    rw (p.1, p.2) (read_stops RefusesFlat (plain_source c.args.words.now.source) (g.P.Places.world c.args.places.now)
    (g.P.Places.world c.read_source.new.places) c.in_err-source.field-0.0 c.in_err-source.ensures.stopped)

pub returns-clause-spelt : goal.returns-clause-spelt
returns-clause-spelt g c =
    IfOk-weaker c.read_program.result (λ program. SpellsTable c.deref.result.now (table_of program))
    (λ program. FlatBySource (plain_source c.args.words.now.source) (g.P.Places.world c.args.places.now) (table_of program))
    (λ program spelt. flat_by (plain_source c.args.words.now.source) (g.P.Places.world c.args.places.now) c.in_ok-source.source.items (table_of program)
    c.in_ok-source.ensures.source
    (subst (λ (bytes : List ℕ). SpellsTable bytes (table_of program)) c.deref.ensures.value spelt))
    c.read_program.ensures.spelt

pub returns-clause-stopped : goal.returns-clause-stopped
returns-clause-stopped g c =
    IfErr-weaker c.read_program.result (IsRefusalOf (RefusesFlat c.deref.result.now))
    (IsSourceStop RefusesFlat (plain_source c.args.words.now.source) (g.P.Places.world c.args.places.now) (g.P.Places.world c.read_source.new.places))
    (λ s refused. flat_stop (plain_source c.args.words.now.source) (g.P.Places.world c.args.places.now) (g.P.Places.world c.read_source.new.places)
    c.in_ok-source.source.items s
    c.in_ok-source.ensures.source (subst (λ (bytes : List ℕ). IsRefusalOf (RefusesFlat bytes) s) c.deref.ensures.value refused))
    c.read_program.ensures.refused

pub returns-in_err-source-clause-reading : goal.returns-in_err-source-clause-reading
returns-in_err-source-clause-reading g c =
    let p = err_from_is_err_and c.from_residual.result c.from_residual.ensures.1 in
    rw (p.1, p.2) (has_stopped c.in_err-source.field-0.0 (most_flat_bytes + 1) (plain_source c.args.words.now.source) (g.P.Places.world c.args.places.now)
    (g.P.Places.world c.read_source.new.places) (record {
      reached = tt;
      few = c.in_err-source.ensures.few;
      asks = c.in_err-source.ensures.asks;
      asked = tt;
      within = c.in_err-source.ensures.within;
      keeps = c.in_err-source.ensures.keeps;
      counts_no_read = c.in_err-source.ensures.counts_no_read;
      late = c.in_err-source.ensures.late;
    }))

pub returns-clause-reading : goal.returns-clause-reading
returns-clause-reading g c = has_read c.in_ok-source.source (most_flat_bytes + 1) (plain_source c.args.words.now.source) (g.P.Places.world c.args.places.now)
    (g.P.Places.world c.read_source.new.places) c.read_program.result
    (record {
      reached = c.in_ok-source.ensures.reached;
      few = c.in_ok-source.ensures.few;
      asks = c.in_ok-source.ensures.asks;
      asked = c.in_ok-source.ensures.asked;
      within = c.in_ok-source.ensures.within;
      keeps = c.in_ok-source.ensures.keeps;
      counts_no_read = c.in_ok-source.ensures.counts_no_read;
      late = c.in_ok-source.ensures.late;
    })
