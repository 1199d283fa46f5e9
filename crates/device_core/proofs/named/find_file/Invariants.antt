use Rattle.std.proofs.Common.{◌≡◌, drop}
use Rattle.device_core.specs.Held.{file_at}
use Rattle.device_core.specs.Memory.{files_of}
use Rattle.device_core.proofs.named.find_file.Given as goal

-- what is left gives what the whole gives
abbrev pub invariant-loop-held : goal.invariant-loop-held
invariant-loop-held l = file_at (files_of (drop l.held-index l.files)) l.name ≡ file_at (files_of l.files) l.name
