use Rattle.std.proofs.Common.{◌≡◌, ◌+◌, ◌<◌, ◌∙◌, [], ℕ, List, Vec, Global, ap, sym, length, map, take, drop, get_or, arith}
use Rattle.std.specs.Prelude.{ℤ}
use Rattle.std.proofs.lemmas.List.{length-map, get_or-map}
use Rattle.std.proofs.lemmas.Slice.Zip.{AllZip-long}
use Rattle.table_text.specs.Rows.{rows_text}
use Rattle.lottery_file.specs.Lotteries.{lists_value}
use Rattle.lottery_file.specs.Written.{AreListed, worth_rows}
use Rattle.lottery_file.proofs.Buffering.{puts_as, puts_next, puts_stop, puts_refused}
use Rattle.lottery_file.proofs.WrittenRows.{zip_at, place_text_as, worth_text_next, worth_text_stop, worth_text_all}
use Rattle.lottery_file.proofs.head.put_worths.Goals as goal

-- the worths of each list
abbrev worths_value : List (Vec ℤ Global) → List (List ℤ)
worths_value worths = map (λ (w : Vec ℤ Global). w.items) worths

-- there are as many lists and as many lists of worths as agents
lists_many : (n : ℕ) (lists : List (Vec ℕ Global)) (worths : List (Vec ℤ Global)) → AreListed n (lists_value lists) (worths_value worths) → (length lists ≡ n) × (length worths ≡ n)
lists_many n lists worths h =
    let l = length-map lists (λ (l : Vec ℕ Global). l.items) in
    let w = length-map worths (λ (w : Vec ℤ Global). w.items) in
    let z = AllZip-long (λ list worth. length worth ≡ length list) (lists_value lists) (worths_value worths) h.places in
    (omega (arith, l, h.many), omega (arith, l, w, z, h.many))

list_at : (lists : List (Vec ℕ Global)) (i : ℕ) (v : Vec ℕ Global) → i < length lists → v ≡ get_or lists i v → v.items ≡ get_or (lists_value lists) i []
list_at lists i v lt is = ap (λ (l : Vec ℕ Global). l.items) is ∙ sym (get_or-map (λ (l : Vec ℕ Global). l.items) lists i v [] lt)

worths_at : (worths : List (Vec ℤ Global)) (i : ℕ) (v : Vec ℤ Global) → i < length worths → v ≡ get_or worths i v → v.items ≡ get_or (worths_value worths) i []
worths_at worths i v lt is = ap (λ (w : Vec ℤ Global). w.items) is ∙ sym (get_or-map (λ (w : Vec ℤ Global). w.items) worths i v [] lt)

pub bounds-worths-i : goal.bounds-worths-i
bounds-worths-i g c = let many = lists_many (length c.args.agents.now) c.args.lists.now c.args.worths.now c.requires in omega (arith, many.1)

pub put_places-requires : goal.put_places-requires
put_places-requires g c =
    let i = c.loop-i.i in
    let many = lists_many (length c.args.agents.now) c.args.lists.now c.args.worths.now c.requires in
    let l : c.deref.result.now ≡ get_or (lists_value c.args.lists.now) i [] = c.deref.ensures.value ∙ list_at c.args.lists.now i c.index-lists-i.result (omega (arith, many.0)) c.index-lists-i.is in
    let w : c.deref-in-loop-i.result.now ≡ get_or (worths_value c.args.worths.now) i [] = c.deref-in-loop-i.ensures.value ∙ worths_at c.args.worths.now i c.index-worths-i.result (omega (arith, many.1)) c.index-worths-i.is in
    ap length w ∙ zip_at (lists_value c.args.lists.now) (worths_value c.args.worths.now) i c.requires.places (omega (arith, c.requires.many)) ∙ sym (ap length l)

pub returns-in_err-put_places : goal.returns-in_err-put_places
returns-in_err-put_places g c =
    let i = c.loop-i.i in
    let agents = c.args.agents.now in
    let columns = c.args.columns.now in
    let lists = lists_value c.args.lists.now in
    let worths = worths_value c.args.worths.now in
    let many = lists_many (length agents) c.args.lists.now c.args.worths.now c.requires in
    let long = length-map c.args.worths.now (λ (w : Vec ℤ Global). w.items) in
    let l : c.deref.result.now ≡ get_or lists i [] = c.deref.ensures.value ∙ list_at c.args.lists.now i c.index-lists-i.result (omega (arith, many.0)) c.index-lists-i.is in
    let w : c.deref-in-loop-i.result.now ≡ get_or worths i [] = c.deref-in-loop-i.ensures.value ∙ worths_at c.args.worths.now i c.index-worths-i.result (omega (arith, many.1)) c.index-worths-i.is in
    let same = place_text_as columns c.name_at.result.now (get_or agents i []) c.deref.result.now (get_or lists i []) c.deref-in-loop-i.result.now (get_or worths i []) c.name_at.ensures l w in
    puts_refused c.from_residual.result c.from_residual.ensures.1
    (puts_as (worth_text_stop agents columns lists worths i (omega arith) (omega (arith, c.requires.many)) (omega (arith, many.1, long)))
    (puts_stop (rows_text (worth_rows (drop (i + 1) agents) columns (drop (i + 1) lists) (drop (i + 1) worths))) (puts_next {t = rows_text (worth_rows (take i agents) columns (take i lists) (take i worths))} c.loop-i.invariant (puts_as same c.in_err-put_places.ensures))))

pub loop-i-preserved : goal.loop-i-preserved
loop-i-preserved g c =
    let i = c.loop-i.i in
    let agents = c.args.agents.now in
    let columns = c.args.columns.now in
    let lists = lists_value c.args.lists.now in
    let worths = worths_value c.args.worths.now in
    let many = lists_many (length agents) c.args.lists.now c.args.worths.now c.requires in
    let long = length-map c.args.worths.now (λ (w : Vec ℤ Global). w.items) in
    let l : c.deref.result.now ≡ get_or lists i [] = c.deref.ensures.value ∙ list_at c.args.lists.now i c.index-lists-i.result (omega (arith, many.0)) c.index-lists-i.is in
    let w : c.deref-in-loop-i.result.now ≡ get_or worths i [] = c.deref-in-loop-i.ensures.value ∙ worths_at c.args.worths.now i c.index-worths-i.result (omega (arith, many.1)) c.index-worths-i.is in
    let same = place_text_as columns c.name_at.result.now (get_or agents i []) c.deref.result.now (get_or lists i []) c.deref-in-loop-i.result.now (get_or worths i []) c.name_at.ensures l w in
    puts_as (worth_text_next agents columns lists worths i (omega arith) (omega (arith, c.requires.many)) (omega (arith, many.1, long))) (puts_next {t = rows_text (worth_rows (take i agents) columns (take i lists) (take i worths))} c.loop-i.invariant (puts_as same c.in_ok-put_places.ensures))

pub returns : goal.returns
returns g c =
    let many = lists_many (length c.args.agents.now) c.args.lists.now c.args.worths.now c.requires in
    let long = length-map c.args.worths.now (λ (w : Vec ℤ Global). w.items) in
    puts_as (worth_text_all c.args.agents.now c.args.columns.now (lists_value c.args.lists.now) (worths_value c.args.worths.now) c.loop-i.i (omega arith) (omega (arith, c.requires.many)) (omega (arith, many.1, long))) c.loop-i.invariant
