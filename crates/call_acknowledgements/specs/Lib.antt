-- What the displays have acknowledged, at a glance.
pub mod SpanOf
