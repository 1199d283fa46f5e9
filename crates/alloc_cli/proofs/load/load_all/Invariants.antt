use Rattle.std.proofs.Common.{◌≤◌, All, ◌≡◌, ◌+◌, map, take, length, IfSome, string_bytes}
use Rattle.device_core.specs.Held.{bytes_at}
use Rattle.alloc_outcomes.specs.Limits.{file_limit}
use Rattle.alloc_cli.specs.Load.{bytes_of}
use Rattle.alloc_cli.proofs.load.load_all.Given as goal

abbrev pub invariant-loop-i : goal.invariant-loop-i
invariant-loop-i g l =
    let held_by = g.F.Files.held in
    record {
      same_held : held_by l.files ≡ held_by l.initial.files;
      same_faults : g.F.Files.faults l.files ≡ g.F.Files.faults l.initial.files;
      count : length l.given.items ≡ l.i;
      bound : All (λ bytes. length bytes ≤ file_limit + 1) (bytes_of l.given.items);
      told : IfSome (held_by l.initial.files) (λ files. bytes_of l.given.items ≡ map (λ name. take (file_limit + 1) (bytes_at files name)) (map string_bytes (take l.i l.names)));
    }
