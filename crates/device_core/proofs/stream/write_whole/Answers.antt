use Rattle.std.proofs.Common.{◌≡◌, ◌-◌, ℕ, List, ◌++◌, length, take, drop, ap, ◌∙◌, append_assoc}
use Rattle.std.proofs.KnownBytes.{Appends-trans}
use Rattle.std.proofs.lemmas.List.{take-append-drop, take_rest}
use Rattle.device_core.proofs.stream.write_whole.Goals as goal

-- n bytes more are written
more_done : (done rest all : List ℕ) (n : ℕ) → done ++ rest ≡ all → (done ++ take n rest) ++ take (length rest - n) (drop n rest) ≡ all
more_done done rest all n split =
    append_assoc done (take n rest) (take (length rest - n) (drop n rest)) ∙ ap (λ s. done ++ (take n rest ++ s)) (take_rest rest n) ∙ ap (λ s. done ++ s) (take-append-drop n rest) ∙ split

pub loop-rest-preserved : goal.loop-rest-preserved
loop-rest-preserved g c =
    let (done, split, appended) = c.loop-rest.invariant in
    (done ++ take c.in-Ok.n c.loop-rest.rest.now, more_done done c.loop-rest.rest.now _ c.in-Ok.n split, Appends-trans _ _ _ _ _ appended c.in-Ok.ensures.bytes)
