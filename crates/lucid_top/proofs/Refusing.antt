-- What the scanner, the parser, the flat form and certificates refuse, as refusals of a call.
use Rattle.lucid_top.proofs.Common.{ℕ, ◌≤◌, List, length, refl, Token, ScanRefusal, ParseRefusal, Table, BuildRefusal, most_flat_bytes, HasTable, RefusesFlat, by_line, by_row, scan_stop, parse_stop, build_stop, IsRefusalOf, HasTokens, RefusesText, by_scan, by_parse, RefusesCertificate, by_judgment, most_certificate_bytes}
use Rattle.lucid_scan.specs.declared.refusal.ScanRefusal.TheVariants as scan
use Rattle.lucid_scan.specs.Refusals.{Refuses}
use Rattle.lucid_parse.specs.declared.refusal.ParseRefusal.TheVariants as parse
use Rattle.lucid_parse.specs.Spelled.{IsSourceRefused}
use Rattle.lucid_flat.specs.declared.read.FlatRefusal.{FlatRefusal}
use Rattle.lucid_flat.specs.declared.read.FlatRefusal.TheVariants as flat
use Rattle.lucid_flat.specs.LinesRead.{IsTextRefused}
use Rattle.lucid_flat.specs.declared.program.BuildRefusal.TheVariants as build
use Rattle.lucid_flat.specs.WrongRows.{IsTableRefused}
use Rattle.lucid_cert_rules.specs.declared.read.WhyRefusal.{WhyRefusal}
use Rattle.lucid_cert_rules.specs.declared.read.WhyRefusal.TheVariants as why
use Rattle.lucid_cert_rules.specs.LinesRead.{IsCertificateRefused}
use Rattle.lucid_report.specs.Refusals.{flat_stop, why_stop}

pub scan_refuses : (source : List ℕ) (e : ScanRefusal) → Refuses source e → IsRefusalOf (RefusesText source) (scan_stop e)
scan_refuses source scan.TooLong r = by_scan scan.TooLong refl r
scan_refuses source (scan.BadByte at) r = by_scan (scan.BadByte at) refl r
scan_refuses source (scan.OpenText at) r = by_scan (scan.OpenText at) refl r
scan_refuses source (scan.BigNumber at) r = by_scan (scan.BigNumber at) refl r
scan_refuses source scan.NoMemory r = tt

pub parse_refuses : (source : List ℕ) (tokens : List Token) (e : ParseRefusal) → HasTokens source tokens → IsSourceRefused source tokens e
    → IsRefusalOf (RefusesText source) (parse_stop e)
parse_refuses source tokens (parse.Syntax at) has r = by_parse (parse.Syntax at) tokens refl has r
parse_refuses source tokens (parse.TooNested at) has r = by_parse (parse.TooNested at) tokens refl has r
parse_refuses source tokens parse.NoMemory has r = tt

pub flat_refuses : (source : List ℕ) (e : FlatRefusal) → length source ≤ most_flat_bytes → IsTextRefused source e
    → IsRefusalOf (RefusesFlat source) (flat_stop e)
flat_refuses source (flat.Form line) short r = by_line short r
flat_refuses source flat.NoMemory short r = tt

pub build_refuses : (source : List ℕ) (t : Table) (e : BuildRefusal) → HasTable source t → IsTableRefused t e → IsRefusalOf (RefusesFlat source) (build_stop e)
build_refuses source t (build.Scope at) has r = by_row t (build.Scope at) refl has r
build_refuses source t (build.Node at) has r = by_row t (build.Node at) refl has r
build_refuses source t (build.Name at) has r = by_row t (build.Name at) refl has r
build_refuses source t (build.Place at) has r = by_row t (build.Place at) refl has r
build_refuses source t build.Root has r = by_row t build.Root refl has r
build_refuses source t build.NoMemory has r = tt

pub certificate_refuses : (bytes : List ℕ) (e : WhyRefusal) → length bytes ≤ most_certificate_bytes → IsCertificateRefused bytes e
    → IsRefusalOf (RefusesCertificate bytes) (why_stop e)
certificate_refuses bytes (why.Form line) short r = by_judgment short r
certificate_refuses bytes why.NoMemory short r = tt
