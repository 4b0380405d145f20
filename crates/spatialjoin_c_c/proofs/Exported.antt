-- Each export's generated contract ensures what that of the library's call of its name ensures, so what `host_ties` says of those
-- holds of these; right because both are made of the same clauses.
use mathlib.Core.Path.{◌≡◌, refl}
use seplogic.Ra.Ura.{Ura}
use base.Logic.{SProp}
use prog.Memory.{Memory}
use prog.Routine.{Routine}
use types.Logic.{Logic}
use contract.Lifetimes.{Lfts}
use contract.Monad.{Fun}
use denote.Triple.Entry.{Args, Res}
use denote.Triple.Clauses.{AtExit}
use Rattle.spatialjoin_c_c.specs.contracts.spatialjoin_load as load_c
use Rattle.spatialjoin_c.specs.contracts.spatialjoin_load as load_lib
use Rattle.spatialjoin_c_c.specs.contracts.spatialjoin_extract as extract_c
use Rattle.spatialjoin_c.specs.contracts.spatialjoin_extract as extract_lib
use Rattle.spatialjoin_c_c.specs.contracts.spatialjoin_exchange as exchange_c
use Rattle.spatialjoin_c.specs.contracts.spatialjoin_exchange as exchange_lib
use Rattle.spatialjoin_c_c.specs.contracts.spatialjoin_logical as logical_c
use Rattle.spatialjoin_c.specs.contracts.spatialjoin_logical as logical_lib
use Rattle.spatialjoin_c_c.specs.contracts.spatialjoin_print as print_c
use Rattle.spatialjoin_c.specs.contracts.spatialjoin_print as print_lib
use Rattle.spatialjoin_c_c.specs.contracts.spatialjoin_merge as merge_c
use Rattle.spatialjoin_c.specs.contracts.spatialjoin_merge as merge_lib
use Rattle.spatialjoin_c_c.specs.contracts.spatialjoin_project as project_c
use Rattle.spatialjoin_c.specs.contracts.spatialjoin_project as project_lib
use Rattle.spatialjoin_c_c.specs.contracts.spatialjoin_version as version_c
use Rattle.spatialjoin_c.specs.contracts.spatialjoin_version as version_lib
use Rattle.spatialjoin_c_c.specs.contracts.spatialjoin_put as put_c
use Rattle.spatialjoin_c.specs.contracts.spatialjoin_put as put_lib
use Rattle.spatialjoin_c_c.specs.contracts.spatialjoin_serve as serve_c
use Rattle.spatialjoin_c.specs.contracts.spatialjoin_serve as serve_lib
use Rattle.spatialjoin_c_c.specs.contracts.spatialjoin_extract_all as extract_all_c
use Rattle.spatialjoin_c.specs.contracts.spatialjoin_extract_all as extract_all_lib
use Rattle.spatialjoin_c_c.specs.contracts.spatialjoin_explain as explain_c
use Rattle.spatialjoin_c.specs.contracts.spatialjoin_explain as explain_lib

module _ {M : Type 1} {𝓤 : Ura M} (𝓛 : Logic 𝓤) (mem : Memory → SProp 𝓤) (run : Routine → Fun 𝓤) where
  pub load-same : (κs : Lfts (load_c.signature).lifetimes) (a : Args load_c.signature κs)
      (z : Res load_c.signature κs) (e : AtExit load_c.ended κs)
      → (load_c.clauses 𝓛 mem run κs a).ensures tt z e ≡ (load_lib.clauses 𝓛 mem run κs a).ensures tt z e
  load-same κs a z e = refl

  pub extract-same : (κs : Lfts (extract_c.signature).lifetimes) (a : Args extract_c.signature κs)
      (z : Res extract_c.signature κs) (e : AtExit extract_c.ended κs)
      → (extract_c.clauses 𝓛 mem run κs a).ensures tt z e ≡ (extract_lib.clauses 𝓛 mem run κs a).ensures tt z e
  extract-same κs a z e = refl

  pub exchange-same : (κs : Lfts (exchange_c.signature).lifetimes) (a : Args exchange_c.signature κs)
      (z : Res exchange_c.signature κs) (e : AtExit exchange_c.ended κs)
      → (exchange_c.clauses 𝓛 mem run κs a).ensures tt z e ≡ (exchange_lib.clauses 𝓛 mem run κs a).ensures tt z e
  exchange-same κs a z e = refl

  pub logical-same : (κs : Lfts (logical_c.signature).lifetimes) (a : Args logical_c.signature κs)
      (z : Res logical_c.signature κs) (e : AtExit logical_c.ended κs)
      → (logical_c.clauses 𝓛 mem run κs a).ensures tt z e ≡ (logical_lib.clauses 𝓛 mem run κs a).ensures tt z e
  logical-same κs a z e = refl

  pub print-same : (κs : Lfts (print_c.signature).lifetimes) (a : Args print_c.signature κs)
      (z : Res print_c.signature κs) (e : AtExit print_c.ended κs)
      → (print_c.clauses 𝓛 mem run κs a).ensures tt z e ≡ (print_lib.clauses 𝓛 mem run κs a).ensures tt z e
  print-same κs a z e = refl

  pub merge-same : (κs : Lfts (merge_c.signature).lifetimes) (a : Args merge_c.signature κs)
      (z : Res merge_c.signature κs) (e : AtExit merge_c.ended κs)
      → (merge_c.clauses 𝓛 mem run κs a).ensures tt z e ≡ (merge_lib.clauses 𝓛 mem run κs a).ensures tt z e
  merge-same κs a z e = refl

  pub project-same : (κs : Lfts (project_c.signature).lifetimes) (a : Args project_c.signature κs)
      (z : Res project_c.signature κs) (e : AtExit project_c.ended κs)
      → (project_c.clauses 𝓛 mem run κs a).ensures tt z e ≡ (project_lib.clauses 𝓛 mem run κs a).ensures tt z e
  project-same κs a z e = refl

  pub version-same : (κs : Lfts (version_c.signature).lifetimes) (a : Args version_c.signature κs)
      (z : Res version_c.signature κs) (e : AtExit version_c.ended κs)
      → (version_c.clauses 𝓛 mem run κs a).ensures tt z e ≡ (version_lib.clauses 𝓛 mem run κs a).ensures tt z e
  version-same κs a z e = refl

  pub put-same : (κs : Lfts (put_c.signature).lifetimes) (a : Args put_c.signature κs)
      (z : Res put_c.signature κs) (e : AtExit put_c.ended κs)
      → (put_c.clauses 𝓛 mem run κs a).ensures tt z e ≡ (put_lib.clauses 𝓛 mem run κs a).ensures tt z e
  put-same κs a z e = refl

  pub serve-same : (κs : Lfts (serve_c.signature).lifetimes) (a : Args serve_c.signature κs)
      (z : Res serve_c.signature κs) (e : AtExit serve_c.ended κs)
      → (serve_c.clauses 𝓛 mem run κs a).ensures tt z e ≡ (serve_lib.clauses 𝓛 mem run κs a).ensures tt z e
  serve-same κs a z e = refl

  pub extract-all-same : (κs : Lfts (extract_all_c.signature).lifetimes) (a : Args extract_all_c.signature κs)
      (z : Res extract_all_c.signature κs) (e : AtExit extract_all_c.ended κs)
      → (extract_all_c.clauses 𝓛 mem run κs a).ensures tt z e ≡ (extract_all_lib.clauses 𝓛 mem run κs a).ensures tt z e
  extract-all-same κs a z e = refl

  pub explain-same : (κs : Lfts (explain_c.signature).lifetimes) (a : Args explain_c.signature κs)
      (z : Res explain_c.signature κs) (e : AtExit explain_c.ended κs)
      → (explain_c.clauses 𝓛 mem run κs a).ensures tt z e ≡ (explain_lib.clauses 𝓛 mem run κs a).ensures tt z e
  explain-same κs a z e = refl
