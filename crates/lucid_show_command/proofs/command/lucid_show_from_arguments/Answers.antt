use Rattle.lucid_show_command.proofs.Common.{ℕ, List, Option, map, refl, subst, string_bytes}
use Rattle.std.specs.Prelude.{drop}
use Rattle.lucid_ports.specs.Told.{told}
use Rattle.lucid_show_command.specs.Words.{asked}
use Rattle.lucid_show_command.specs.Shows.{SaysOrShows, ShowsAsked}
use Rattle.lucid_show_command.proofs.command.lucid_show_from_arguments.Goals as goal

pub returns-in-Some : goal.returns-in-Some
returns-in-Some g c =
    subst
    (λ (o : Option (List ℕ)). SaysOrShows (g.F.Outlook.files c.args.means.now.outlook.now) (g.P.Places.world c.args.places.now) (g.P.Places.world c.args.places.now)
    (told g.K.Sink.written g.K.Sink.faults g.K.Sink.late c.args.out.now) (told g.K.Sink.written g.K.Sink.faults g.K.Sink.late c.write_out-outcome.new.out)
    (told g.E.Sink.written g.E.Sink.faults g.E.Sink.late c.args.report.now) (told g.E.Sink.written g.E.Sink.faults g.E.Sink.late c.tell.new.report) c.tell.result o
    (asked (map (string_bytes {Z = Rattle.std.specs.Global.Global}) (drop 1 c.args.arguments.now))))
    c.in-Some.ensures (record { outcome = c.write_out-outcome.result; unread = refl; writes = c.write_out-outcome.ensures.writes; tells = c.tell.ensures.tells })

pub returns-in-None : goal.returns-in-None
returns-in-None g c =
    subst
    (λ (o : Option (List ℕ)). SaysOrShows (g.F.Outlook.files c.args.means.now.outlook.now) (g.P.Places.world c.args.places.now) (g.P.Places.world c.lucid_show.new.places)
    (told g.K.Sink.written g.K.Sink.faults g.K.Sink.late c.args.out.now) (told g.K.Sink.written g.K.Sink.faults g.K.Sink.late c.lucid_show.new.out)
    (told g.E.Sink.written g.E.Sink.faults g.E.Sink.late c.args.report.now) (told g.E.Sink.written g.E.Sink.faults g.E.Sink.late c.lucid_show.new.report) c.lucid_show.result o
    (asked (map (string_bytes {Z = Rattle.std.specs.Global.Global}) (drop 1 c.args.arguments.now))))
    c.in-None.ensures
    (subst
    (λ words. ShowsAsked (g.F.Outlook.files c.args.means.now.outlook.now) (g.P.Places.world c.args.places.now) (g.P.Places.world c.lucid_show.new.places)
    (told g.K.Sink.written g.K.Sink.faults g.K.Sink.late c.args.out.now) (told g.K.Sink.written g.K.Sink.faults g.K.Sink.late c.lucid_show.new.out)
    (told g.E.Sink.written g.E.Sink.faults g.E.Sink.late c.args.report.now) (told g.E.Sink.written g.E.Sink.faults g.E.Sink.late c.lucid_show.new.report) c.lucid_show.result
    (asked (map (string_bytes {Z = Rattle.std.specs.Global.Global}) words))) c.words_of.ensures c.lucid_show.ensures)
