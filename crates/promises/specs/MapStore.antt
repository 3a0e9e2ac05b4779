-- Both areas and a lent map, in the sense of `Beside`.
use Rattle.std.specs.Prelude.{ℕ, List, leb, length}
use Rattle.span.specs.Bytes.{splice}
use Rattle.building.specs.Build.{built_map}
use Rattle.promises.specs.RunWords.{Areas}
use Rattle.promises.specs.RunStore.{store}
use Rattle.promises.specs.Beside.{Beside}
use Rattle.promises.specs.MapWords.{Mapped, map_room, mapped, cut_mapped, takes_with_by, does_with_by}

abbrev pub with : Areas → List ℕ → Mapped
with s map = record { areas = s; map = map }

-- what Build leaves in a map's buffer
abbrev pub laid : Areas → List ℕ → List ℕ
laid s map = splice map 0 (built_map s.patch)

abbrev pub beside : (P : ℕ) → Beside (store P)
beside P = record {
  Buffer = List ℕ;
  Both = Mapped;
  both = with;
  fits = λ f map. leb (map_room f) (length map);
  takes_with = takes_with_by (mapped P) (cut_mapped P);
  step_with = does_with_by (mapped P) (cut_mapped P);
  built = laid;
}
