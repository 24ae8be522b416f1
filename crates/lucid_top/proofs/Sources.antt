-- Judging the first bytes of a source, one more than it may have, is judging the source.
use Rattle.lucid_top.proofs.Common.{◌≡◌, ℕ, ◌+◌, ◌≤◌, ◌<◌, List, length, Option, Some, None, subst, refl, inl, inr, arith, IfSome, cases_lt, take_all, World, PlainTree, Table, IsFirstWrongLine, most_source_bytes, PlainSource, file, made, Refusal, Stop, IsRefusalOf, HasTokens, Spelt, RefusesText, by_scan, by_parse, most_flat_bytes, HasTable, SpellsTable, RefusesFlat, by_length, by_line, by_row, IsSource, SpeltBySource, FlatBySource, IsSourceStop, IsReadStop, length-take-le, HeldCertificate, HoldsCertificate, RefusesCertificate, Why, by_judgment, by_size, most_certificate_bytes}
use Rattle.std.proofs.Common.{take}
use Rattle.lucid_scan.specs.declared.refusal.ScanRefusal.TheVariants as scan
use Rattle.lucid_scan.specs.Refusals.{Refuses}
use Rattle.lucid_parse.specs.Spelled.{IsSourceRefused}
use Rattle.lucid_report.specs.declared.stop.Stop.TheVariants as stop
use Rattle.lucid_cert_rules.specs.WhyTexts as why
use Rattle.lucid_top.specs.Places.{IsSourceFront}

short_whole : (most : ℕ) (source : List ℕ) → length (take (most + 1) source) ≤ most → take (most + 1) source ≡ source
short_whole most source h =
    elim (cases_lt (most + 1) (length source)) [
      | inl long ↦ let cut : length (take (most + 1) source) ≡ most + 1 = length-take-le (most + 1) source (omega (arith, long)) in
          absurd (omega (arith, cut, h))
      | inr short ↦ take_all (most + 1) source short
    ]

long_whole : (most : ℕ) (source : List ℕ) → most < length (take (most + 1) source) → most < length source
long_whole most source h =
    elim (cases_lt most (length source)) [
      | inl long ↦ long
      | inr short ↦ let whole : take (most + 1) source ≡ source = take_all (most + 1) source (omega (arith, short)) in subst (λ s. most < length s) whole h
    ]

whole_spelt : (source : List ℕ) (p : PlainTree) → Spelt (take (most_source_bytes + 1) source) p → Spelt source p
whole_spelt source p j = subst (λ s. Spelt s p) (short_whole most_source_bytes source j.scanned.short) j

whole_refused : (source : List ℕ) (why : Refusal) → RefusesText (take (most_source_bytes + 1) source) why → RefusesText source why
whole_refused source why (by_scan scan.TooLong is r) = by_scan scan.TooLong is (long_whole most_source_bytes source r)
whole_refused source why (by_scan (scan.BadByte at) is r) =
    by_scan (scan.BadByte at) is (subst (λ s. Refuses s (scan.BadByte at)) (short_whole most_source_bytes source r.0) r)
whole_refused source why (by_scan (scan.OpenText at) is r) =
    by_scan (scan.OpenText at) is (subst (λ s. Refuses s (scan.OpenText at)) (short_whole most_source_bytes source r.0) r)
whole_refused source why (by_scan (scan.BigNumber at) is r) =
    by_scan (scan.BigNumber at) is (subst (λ s. Refuses s (scan.BigNumber at)) (short_whole most_source_bytes source r.0) r)
whole_refused source why (by_scan scan.NoMemory is r) = by_scan scan.NoMemory is tt
whole_refused source why (by_parse e tokens is has r) =
    by_parse e tokens is (subst (λ s. HasTokens s tokens) (short_whole most_source_bytes source has.short) has)
    (subst (λ s. IsSourceRefused s tokens e) (short_whole most_source_bytes source has.short) r)

whole_spells : (source : List ℕ) (t : Table) → SpellsTable (take (most_flat_bytes + 1) source) t → SpellsTable source t
whole_spells source t x = subst (λ s. SpellsTable s t) (short_whole most_flat_bytes source x.has.short) x

whole_line : (source : List ℕ) (line : ℕ) → length (take (most_flat_bytes + 1) source) ≤ most_flat_bytes
    → IsFirstWrongLine (take (most_flat_bytes + 1) source) line → IsFirstWrongLine source line
whole_line source line short wrong = subst (λ s. IsFirstWrongLine s line) (short_whole most_flat_bytes source short) wrong

whole_flat : (source : List ℕ) (why : Refusal) → RefusesFlat (take (most_flat_bytes + 1) source) why → RefusesFlat source why
whole_flat source why (by_length long) = by_length (long_whole most_flat_bytes source long)
whole_flat source why (by_line short wrong) = by_line (subst (λ s. length s ≤ most_flat_bytes) (short_whole most_flat_bytes source short) short)
    (whole_line source _ short wrong)
whole_flat source why (by_row t e is has r) = by_row t e is (subst (λ s. HasTable s t) (short_whole most_flat_bytes source has.short) has) r

whole_row : (bytes : List ℕ) (line : ℕ) → length (take (most_certificate_bytes + 1) bytes) ≤ most_certificate_bytes
    → why.IsFirstWrongLine (take (most_certificate_bytes + 1) bytes) line → why.IsFirstWrongLine bytes line
whole_row bytes line short wrong = subst (λ s. why.IsFirstWrongLine s line) (short_whole most_certificate_bytes bytes short) wrong

whole_certificate : (bytes : List ℕ) (reason : Refusal) → RefusesCertificate (take (most_certificate_bytes + 1) bytes) reason → RefusesCertificate bytes reason
whole_certificate bytes reason (by_size long) = by_size (long_whole most_certificate_bytes bytes long)
whole_certificate bytes reason (by_judgment short wrong) =
    by_judgment (subst (λ s. length s ≤ most_certificate_bytes) (short_whole most_certificate_bytes bytes short) short) (whole_row bytes _ short wrong)

-- what holds of the bytes that were read holds of the source
with_source : (most : ℕ) (source : PlainSource) (w : World) (bytes : List ℕ) (Q : List ℕ → Type 0) → ((held : List ℕ) → Q (take most held) → Q held)
    → IsSourceFront most source w bytes → Q bytes
    → (whole : List ℕ) × IsSource source w whole × Q whole
with_source most (made n) w bytes Q carry read q = (bytes, read, q)
with_source most (file name) w bytes Q carry read q = of_held (w.holds name) refl read
  where
    of_held : (told : Option (List ℕ)) → told ≡ w.holds name → IfSome told (λ held. bytes ≡ take most held)
        → (whole : List ℕ) × IfSome (w.holds name) (λ held. whole ≡ held) × Q whole
    of_held None is read' = (bytes, subst (λ o. IfSome o (λ h. bytes ≡ h)) is tt, q)
    of_held (Some held) is read' = (held, subst (λ o. IfSome o (λ h. held ≡ h)) is refl, carry held (subst Q read' q))

pub spelt_by : (source : PlainSource) (w : World) (bytes : List ℕ) (p : PlainTree) → IsSourceFront (most_source_bytes + 1) source w bytes → Spelt bytes p
    → SpeltBySource source w p
spelt_by source w bytes p read spelt =
    let s = with_source (most_source_bytes + 1) source w bytes (λ b. Spelt b p) (λ held h. whole_spelt held p h) read spelt in
    record { bytes = s.0; is = s.1; spelt = s.2 }

pub flat_by : (source : PlainSource) (w : World) (bytes : List ℕ) (t : Table) → IsSourceFront (most_flat_bytes + 1) source w bytes → SpellsTable bytes t
    → FlatBySource source w t
flat_by source w bytes t read spelt =
    let s = with_source (most_flat_bytes + 1) source w bytes (λ b. SpellsTable b t) (λ held h. whole_spells held t h) read spelt in
    record { bytes = s.0; is = s.1; spelt = s.2 }

pub held_by : (name : List ℕ) (w : World) (bytes : List ℕ) (c : Why) → IsSourceFront (most_certificate_bytes + 1) (file name) w bytes → HoldsCertificate bytes c
    → HeldCertificate name w c
held_by name w bytes c read holds =
    let s = with_source (most_certificate_bytes + 1) (file name) w bytes (λ b. HoldsCertificate b c)
    (λ held h. subst (λ b. HoldsCertificate b c) (short_whole most_certificate_bytes held h.short) h) read holds in
    record { bytes = s.0; is = s.1; holds = s.2 }

-- a refusal of the bytes that were read is one of the source
refused_stop : (Refused : List ℕ → Refusal → Type 0) (most : ℕ) → ((source : List ℕ) (why : Refusal) → Refused (take most source) why → Refused source why)
    → (source : PlainSource) (old new : World) (bytes : List ℕ) (s : Stop) → IsSourceFront most source old bytes → IsRefusalOf (Refused bytes) s
    → IsSourceStop Refused source old new s
refused_stop Refused most carry source old new bytes (stop.Refused why) read refused =
    with_source most source old bytes (λ b. Refused b why) (λ held h. carry held why h) read refused
refused_stop Refused most carry source old new bytes stop.NoMemory read refused = tt
refused_stop Refused most carry source old new bytes _ read refused = absurd refused

pub text_stop : (source : PlainSource) (old new : World) (bytes : List ℕ) (s : Stop) → IsSourceFront (most_source_bytes + 1) source old bytes
    → IsRefusalOf (RefusesText bytes) s
    → IsSourceStop RefusesText source old new s
text_stop source old new bytes s read refused = refused_stop RefusesText (most_source_bytes + 1) (λ held why h. whole_refused held why h) source old new bytes s
    read refused

pub flat_stop : (source : PlainSource) (old new : World) (bytes : List ℕ) (s : Stop) → IsSourceFront (most_flat_bytes + 1) source old bytes
    → IsRefusalOf (RefusesFlat bytes) s
    → IsSourceStop RefusesFlat source old new s
flat_stop source old new bytes s read refused = refused_stop RefusesFlat (most_flat_bytes + 1) (λ held why h. whole_flat held why h) source old new bytes s read
    refused

pub certificate_stop : (name : List ℕ) (old new : World) (bytes : List ℕ) (s : Stop) → IsSourceFront (most_certificate_bytes + 1) (file name) old bytes
    → IsRefusalOf (RefusesCertificate bytes) s
    → IsSourceStop RefusesCertificate (file name) old new s
certificate_stop name old new bytes s read refused =
    refused_stop RefusesCertificate (most_certificate_bytes + 1) (λ held reason h. whole_certificate held reason h) (file name) old new bytes s read refused

-- a place can't be read
pub read_stops : (Refused : List ℕ → Refusal → Type 0) (source : PlainSource) (old new : World) (s : Stop) → IsReadStop old new s
    → IsSourceStop Refused source old new s
read_stops Refused source old new stop.NoMemory h = h
read_stops Refused source old new stop.ReadFault h = h
read_stops Refused source old new _ h = absurd h
